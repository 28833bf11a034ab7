-- The states of the open nodes, where one is entered or left.
use Rattle.std.proofs.Common.{◌≡◌, ℕ, zero, suc, ◌+◌, ◌-◌, ◌<◌, ◌≤◌, max, Bool, cond, List, [], ◌∷◌, ◌++◌, length, take, get_or, refl, sym, ◌∙◌, ap, subst, inl, inr, ◌⊎◌, arith, Some}
use Rattle.std.specs.Prelude.{leb, slice_get}
use Rattle.std.proofs.lemmas.List.{length-append, length-take-le, take-append-le, take-take, take_all}
use Rattle.std.proofs.lemmas.List.Elements.{filter-append}
use Rattle.std.proofs.lemmas.Bool.{le-leb, lt-leb}
use Rattle.std.proofs.lemmas.Option.{slice_get-get_or}
use Rattle.gcx_base.specs.declared.kind.Kind.{Kind}
use Rattle.tree_laws.proofs.Lists.{In, In-left, In-right, In-append}
use Rattle.path_states.specs.Moves.{AreKnown, AreRight, AreSame, Forgets, LeadsOn}
use Rattle.path_states.specs.Names.{IsNameNumber}
use Rattle.path_states.specs.Open.{unkept}
use Rattle.path_states.specs.State.{StateView, IsMade, MovesBelow}
use Rattle.path_states.specs.States.{ForgetInOrder, last_state, no_state, outer_states, states_at}
use Rattle.path_states.specs.declared.branches.StepIndex.{StepIndex}
use Rattle.path_states.specs.declared.paths.PathState.{PathState}
use Rattle.path_states.specs.declared.remembered.Remembered.{Remembered}
use Rattle.path_states.proofs.Growing.{at_seam}
use Rattle.path_states.proofs.Rooming.{room_same}

-- the state of a number
abbrev pub state_at : List StateView → ℕ → StateView
state_at known n = get_or known n no_state

-- numbers with the same states

states_same : (known now : List StateView) (numbers : List ℕ) → ((n : ℕ) → In n numbers → state_at now n ≡ state_at known n) → states_at now numbers ≡ states_at known numbers
states_same known now [] h = refl
states_same known now (n ∷ ns) h = ap (λ (s : StateView). s ∷ states_at now ns) (h n (inl refl)) ∙ ap (λ (ss : List StateView). state_at known n ∷ ss) (states_same known now ns (λ m i. h m (inr i)))

front_same : (known more : List StateView) (n : ℕ) → n < length known → state_at (known ++ more) n ≡ state_at known n
front_same [] more n l = absurd (omega arith)
front_same (x ∷ xs) more zero l = refl
front_same (x ∷ xs) more (suc n) l = let m : n < length xs = omega arith in front_same xs more n m

take_same : (known : List StateView) (k n : ℕ) → n < k → state_at (take k known) n ≡ state_at known n
take_same known zero n l = absurd (omega arith)
take_same [] (suc k) n l = refl
take_same (x ∷ xs) (suc k) zero l = refl
take_same (x ∷ xs) (suc k) (suc n) l = let m : n < k = omega arith in take_same xs k n m

-- one number more
states_push : (known : List StateView) (numbers : List ℕ) (n : ℕ) → states_at known (numbers ++ n ∷ []) ≡ states_at known numbers ++ state_at known n ∷ []
states_push known [] n = refl
states_push known (m ∷ ms) n = ap (λ (ss : List StateView). state_at known m ∷ ss) (states_push known ms n)

last_push : (xs ys : List StateView) (x : StateView) → ys ≡ xs ++ x ∷ [] → last_state ys ≡ Some x
last_push xs ys x e =
    let f = ap length e in
    let g = length-append xs (x ∷ []) in
    let n : length ys - 1 ≡ length xs = omega arith in
    ap (slice_get ys) n ∙ (ap (λ (z : List StateView). slice_get z (length xs)) e ∙ at_seam xs x)

-- the innermost one's state is the last
pub last_here : (known : List StateView) (outer : List ℕ) (here : ℕ) → last_state (states_at known (outer ++ here ∷ [])) ≡ Some (state_at known here)
last_here known outer here = last_push (states_at known outer) (states_at known (outer ++ here ∷ [])) (state_at known here) (states_push known outer here)

pub length_states : (known : List StateView) (numbers : List ℕ) → length (states_at known numbers) ≡ length numbers
length_states known [] = refl
length_states known (n ∷ ns) = ap suc (length_states known ns)

-- what was said over a slice of the same path states
pub leads_over : (t tree : List PathState) (steps : StepIndex) (before now : Remembered) (from number to : ℕ) → t ≡ tree → (AreKnown t steps before → LeadsOn t steps.names.items before now from number to)
    → AreKnown tree steps before → LeadsOn tree steps.names.items before now from number to
leads_over t tree steps before now from number to e h a =
    subst (λ (z : List PathState). LeadsOn z steps.names.items before now from number to) e (h (subst (λ (z : List PathState). AreKnown z steps before) (sym e) a))

-- the same states and moves are right
pub known_same : (tree : List PathState) (steps : StepIndex) (before now : Remembered) → AreSame before now → AreKnown tree steps before → AreKnown tree steps now
known_same tree steps before now s a = record {
  right = record {
    kept = (let b = a.right.kept in let e = ap length s.states in let f = s.kept in omega arith);
    room = room_same before now (ap (λ (z : ℕ). take z now.states.items) s.kept ∙ ap (take before.kept) s.states) s.kept s.moves s.bytes s.bound a.right.room;
    made = λ n x at. a.right.made n x (subst (λ (z : List StateView). slice_get z n ≡ Some x) s.states at);
    moves = λ m j. (
        let h = a.right.moves m (subst (λ z. In (Some m) z.slots.items) s.moves j) in
        let e = s.kept in
        let f = h.starts in
        let g = h.ends in
        record {
          starts = omega arith;
          ends = omega arith;
          leads = λ x at above kind up is. h.leads x (subst (λ (z : List StateView). slice_get z m.to ≡ Some x) s.states at) above kind (subst (λ (z : List StateView). slice_get z m.from ≡ Some above) s.states up) is;
        });
  };
  index = a.index;
}

-- how many of the numbers aren't those of kept states

unkept_push : (kept : ℕ) (numbers : List ℕ) (n : ℕ) → length (unkept kept (numbers ++ n ∷ [])) ≡ length (unkept kept numbers) + length (unkept kept (n ∷ []))
unkept_push kept numbers n = ap length (filter-append (λ m. leb kept m) numbers (n ∷ [])) ∙ length-append (unkept kept numbers) (unkept kept (n ∷ []))

unkept_one : (kept n : ℕ) → kept ≤ n → length (unkept kept (n ∷ [])) ≡ 1
unkept_one kept n l = ap (λ (b : Bool). length (cond b (n ∷ []) [])) (le-leb kept n l)

unkept_none : (kept n : ℕ) → n < kept → length (unkept kept (n ∷ [])) ≡ 0
unkept_none kept n l = ap (λ (b : Bool). length (cond b (n ∷ []) [])) (lt-leb kept n l)

-- one node is entered

order_more : (before now : ℕ) (numbers : List ℕ) (to : ℕ) → before ≤ now → ((n : ℕ) → In n numbers → (to < now) ⊎ (n < to)) → ForgetInOrder before numbers → ForgetInOrder now (numbers ++ to ∷ [])
order_more before now [] to k h o = ((λ m i. absurd i), tt)
order_more before now (n ∷ ns) to k h o = (
  (λ m i. elim (In-append m ns (to ∷ []) i) [
    | inl j ↦ elim (o.0 m j) [ inl a ↦ (let b : m < now = omega arith in inl b) | inr a ↦ inr a ]
    | inr j ↦ elim j [ inl e ↦ subst (λ (z : ℕ). (z < now) ⊎ (n < z)) e (h n (inl refl)) | inr b ↦ absurd b ]
  ]),
  order_more before now ns to k (λ m i. h m (inr i)) o.1,
)

module _ (tree : List PathState) (names : List (List ℕ)) (before now : Remembered) (outer : List ℕ) (here number to : ℕ) (l : LeadsOn tree names before now here number to)
    (there : (n : ℕ) → In n (outer ++ here ∷ []) → n < length before.states.items) (order : ForgetInOrder before.kept (outer ++ here ∷ [])) where
  abbrev numbers : List ℕ
  numbers = outer ++ here ∷ []

  -- the states of the nodes that were open stay
  stay : states_at now.states.items numbers ≡ states_at before.states.items numbers
  stay = states_same before.states.items now.states.items numbers (λ n i. ap (λ (z : List StateView). state_at z n) l.states ∙ front_same before.states.items l.more n (there n i))

  there_now : (n : ℕ) → In n numbers → n < length now.states.items
  there_now n i = let a = there n i in let e = ap length l.states in let f = length-append before.states.items l.more in omega arith

  pub there_more : (n : ℕ) → In n (numbers ++ to ∷ []) → n < length now.states.items
  there_more n i = elim (In-append n numbers (to ∷ []) i) [ inl j ↦ there_now n j | inr j ↦ elim j [ inl e ↦ subst (λ (z : ℕ). z < length now.states.items) e l.there | inr b ↦ absurd b ] ]

  pub order_now : ForgetInOrder now.kept (numbers ++ to ∷ [])
  order_now = order_more before.kept now.kept numbers to l.kept (λ n i. elim l.place [ inl a ↦ inl a | inr e ↦ (let a = there n i in let b : n < to = omega arith in inr b) ]) order

  -- a state that isn't kept is that of an open node
  pub few_more : before.kept ≤ length before.states.items → length before.states.items ≤ before.kept + length (unkept before.kept numbers) → length now.states.items ≤ now.kept + length (unkept now.kept (numbers ++ to ∷ []))
  few_more low few = elim l.all [
    | inl same ↦ subst (λ (k : ℕ). length now.states.items ≤ k + length (unkept k (numbers ++ to ∷ []))) (sym same) as_many
    | inr m ↦ omega arith
  ]
    where
      as_many : length now.states.items ≤ before.kept + length (unkept before.kept (numbers ++ to ∷ []))
      as_many =
          let e = ap length l.states in
          let f = length-append before.states.items l.more in
          let p = unkept_push before.kept numbers to in
          elim l.one [
            | inl none ↦ (let n = ap length none in omega arith)
            | inr last ↦ (let n = last.0 in let at = last.1 in let k : before.kept ≤ to = omega arith in let u = unkept_one before.kept to k in omega arith)
          ]

  at_to : slice_get now.states.items to ≡ Some (state_at now.states.items to)
  at_to = slice_get-get_or now.states.items to no_state l.there

  pub states_more : states_at now.states.items (numbers ++ to ∷ []) ≡ states_at before.states.items numbers ++ state_at now.states.items to ∷ []
  states_more = states_push now.states.items numbers to ∙ ap (λ (ss : List StateView). ss ++ state_at now.states.items to ∷ []) stay

  pub made_more : IsMade tree (state_at now.states.items to)
  made_more = l.right.made to (state_at now.states.items to) at_to

  pub leads_more : (above : StateView) (kind : Kind) → last_state (states_at before.states.items numbers) ≡ Some above → IsNameNumber names kind number → MovesBelow tree above kind (state_at now.states.items to)
  leads_more above kind e is =
      let low = there here (In-right here outer (here ∷ []) (inl refl)) in
      let at : slice_get before.states.items here ≡ Some above = slice_get-get_or before.states.items here no_state low ∙ (sym (last_here before.states.items outer here) ∙ e) in
      l.leads (state_at now.states.items to) at_to above kind at is

-- the innermost node is left

pub at_take : (xs : List StateView) (k i : ℕ) (s : StateView) → slice_get (take k xs) i ≡ Some s → slice_get xs i ≡ Some s
at_take xs zero i s e = absurd (cc)
at_take [] (suc k) i s e = e
at_take (x ∷ xs) (suc k) zero s e = e
at_take (x ∷ xs) (suc k) (suc i) s e = at_take xs k i s e

right_less : (tree : List PathState) (names : List (List ℕ)) (before now : Remembered) (n : ℕ) → before.kept ≤ n → now.kept ≡ before.kept → now.moves ≡ before.moves → now.states.items ≡ take n before.states.items
    → n < length before.states.items → now.bytes ≡ before.bytes → now.bound ≡ before.bound → AreRight tree names before → AreRight tree names now
right_less tree names before now n k kept moves states low bytes bound r = record {
  kept = (let e = ap length states in let f = length-take-le n before.states.items (omega arith) in omega arith);
  room = room_same before now (ap (λ (z : ℕ). take z now.states.items) kept ∙ (ap (take before.kept) states ∙ take-take before.kept n before.states.items k)) kept moves bytes bound r.room;
  made = λ i s at. r.made i s (as_before i s at);
  moves = λ m j. (
      let h = r.moves m (subst (λ z. In (Some m) z.slots.items) moves j) in
      let a = h.starts in
      let b = h.ends in
      record {
        starts = omega arith;
        ends = omega arith;
        leads = λ s at above kind up is. h.leads s (as_before m.to s at) above kind (as_before m.from above up) is;
      });
}
  where
    as_before : (i : ℕ) (s : StateView) → slice_get now.states.items i ≡ Some s → slice_get before.states.items i ≡ Some s
    as_before i s at = at_take before.states.items n i s (subst (λ (z : List StateView). slice_get z i ≡ Some s) states at)

module _ (tree : List PathState) (names : List (List ℕ)) (before now : Remembered) (numbers : List ℕ) (here : ℕ) (kept : now.kept ≡ before.kept) (moves : now.moves ≡ before.moves) (f : Forgets before now here)
    (there : (n : ℕ) → In n (numbers ++ here ∷ []) → n < length before.states.items) (order : ForgetInOrder before.kept (numbers ++ here ∷ [])) where
  here_there : here < length before.states.items
  here_there = there here (In-right here numbers (here ∷ []) (inl refl))

  pub right_left : now.bytes ≡ before.bytes → now.bound ≡ before.bound → AreRight tree names before → AreRight tree names now
  right_left bytes bound r = elim f [
    | inl p ↦ record {
      kept = (let b = r.kept in let e = ap length p.1 in omega arith);
      room = room_same before now (ap (λ (z : ℕ). take z now.states.items) kept ∙ ap (take before.kept) p.1) kept moves bytes bound r.room;
      made = λ i s at. r.made i s (subst (λ (z : List StateView). slice_get z i ≡ Some s) p.1 at);
      moves = λ m j. (
          let h = r.moves m (subst (λ z. In (Some m) z.slots.items) moves j) in
          let a = h.starts in
          let b = h.ends in
          record {
            starts = omega arith;
            ends = omega arith;
            leads = λ s at above kind up is. h.leads s (subst (λ (z : List StateView). slice_get z m.to ≡ Some s) p.1 at) above kind (subst (λ (z : List StateView). slice_get z m.from ≡ Some above) p.1 up) is;
          });
    }
    | inr p ↦ right_less tree names before now here p.0 kept moves p.1 here_there bytes bound r
  ]

  -- the innermost one's number is kept, or above the others
  below : (ns : List ℕ) → ForgetInOrder before.kept (ns ++ here ∷ []) → (n : ℕ) → In n ns → (here < before.kept) ⊎ (n < here)
  below [] o n i = absurd i
  below (m ∷ ms) o n (inl e) = subst (λ (z : ℕ). (here < before.kept) ⊎ (z < here)) e (o.0 here (In-right here ms (here ∷ []) (inl refl)))
  below (m ∷ ms) o n (inr i) = below ms o.1 n i

  less : before.kept ≤ here → (n : ℕ) → In n numbers → n < here
  less k n i = elim (below numbers order n i) [ inl a ↦ absurd (omega arith) | inr a ↦ a ]

  pub there_left : (n : ℕ) → In n numbers → n < length now.states.items
  there_left n i =
      let a = there n (In-left n numbers (here ∷ []) i) in
      elim f [
        | inl p ↦ (let e = ap length p.1 in omega arith)
        | inr p ↦ (let e = ap length p.1 in let b = less p.0 n i in let c = here_there in let g = length-take-le here before.states.items (omega arith) in omega arith)
      ]

  pub states_left : states_at now.states.items numbers ≡ states_at before.states.items numbers
  states_left = elim f [
    | inl p ↦ ap (λ (z : List StateView). states_at z numbers) p.1
    | inr p ↦ states_same before.states.items now.states.items numbers (λ n i. ap (λ (z : List StateView). state_at z n) p.1 ∙ take_same before.states.items here n (less p.0 n i))
  ]

  order_front : (ns : List ℕ) → ForgetInOrder before.kept (ns ++ here ∷ []) → ForgetInOrder before.kept ns
  order_front [] o = tt
  order_front (n ∷ ns) o = ((λ m i. o.0 m (In-left m ns (here ∷ []) i)), order_front ns o.1)

  pub order_left : ForgetInOrder now.kept numbers
  order_left = subst (λ (z : ℕ). ForgetInOrder z numbers) (sym kept) (order_front numbers order)

  pub few_left : length before.states.items ≤ before.kept + length (unkept before.kept (numbers ++ here ∷ [])) → length now.states.items ≤ now.kept + length (unkept now.kept numbers)
  few_left few =
      let p = unkept_push before.kept numbers here in
      let h = here_there in
      subst (λ (k : ℕ). length now.states.items ≤ k + length (unkept k numbers)) (sym kept) (elim f [
        | inl q ↦ (let u = unkept_none before.kept here q.0 in let e = ap length q.1 in omega arith)
        | inr q ↦ (let u = unkept_one before.kept here q.0 in let e = ap length q.1 in let g = length-take-le here before.states.items (omega arith) in omega arith)
      ])

  -- the others' states are what is left of all
  pub outer_left : 0 < length numbers → outer_states (states_at before.states.items (numbers ++ here ∷ [])) ≡ states_at before.states.items numbers
  outer_left some =
      let all = states_at before.states.items (numbers ++ here ∷ []) in
      let front = states_at before.states.items numbers in
      let e = states_push before.states.items numbers here in
      let long = ap length e in
      let more = length-append front (state_at before.states.items here ∷ []) in
      let same = length_states before.states.items numbers in
      let n : max 1 (length all - 1) ≡ length front = omega arith in
      let fits : length front ≤ length front = omega arith in
      ap (λ (k : ℕ). take k all) n ∙ (ap (take (length front)) e ∙ (take-append-le (length front) front (state_at before.states.items here ∷ []) fits ∙ take_all (length front) front fits))

-- the state of a level
pub at_level : (known : List StateView) (numbers : List ℕ) (level number : ℕ) → slice_get numbers level ≡ Some number → slice_get (states_at known numbers) level ≡ Some (state_at known number)
at_level known [] level number e = absurd (cc)
at_level known (n ∷ ns) zero number e = let f : n ≡ number = cc in ap (λ (z : ℕ). Some (state_at known z)) f
at_level known (n ∷ ns) (suc level) number e = at_level known ns level number e

-- the document node's alone
pub first_open : (known : Remembered) (first : StateView) (outer : List ℕ) → known.states.items ≡ first ∷ [] → outer ≡ [] → ((n : ℕ) → In n (outer ++ 0 ∷ []) → n < length known.states.items) × ForgetInOrder known.kept (outer ++ 0 ∷ [])
first_open known first outer states none = (
  (λ n i. let e = ap length states in elim (subst (λ (z : List ℕ). In n (z ++ 0 ∷ [])) none i) [ inl z ↦ omega arith | inr b ↦ absurd b ]),
  subst (λ (z : List ℕ). ForgetInOrder known.kept (z ++ 0 ∷ [])) (sym none) ((λ m i. absurd i), tt),
)
