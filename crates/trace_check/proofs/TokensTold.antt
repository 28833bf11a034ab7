-- One token more is told, with what it did and the actions behind it.
use Rattle.std.proofs.Common.{◌≡◌, ℕ, zero, suc, ◌<◌, ◌≤◌, true, ◌||◌, List, [], ◌∷◌, ◌++◌, length, get_or, take, drop, Option, Some, None, refl, sym, ◌∙◌, ap, subst, arith, length-append}
use Rattle.std.proofs.lemmas.Bool.{eq-eqb}
use Rattle.std.proofs.lemmas.List.{get_or_append_left, take-append-drop, take-append-le}
use Rattle.std.proofs.Math.Seq.{take-append_seam}
use Rattle.gcx_model.specs.Core.{BodyTree, PlanTree}
use Rattle.gcx_model.specs.Cores.{Good}
use Rattle.gcx_model.specs.Demand.{Line, feed_line, opened_line, trace_lines}
use Rattle.gcx_model.specs.Growth.{may_all}
use Rattle.gcx_model.specs.Members.{In}
use Rattle.gcx_model.specs.Placed.{Placed}
use Rattle.gcx_model.specs.Run.{Action}
use Rattle.gcx_model.specs.Tree.{Node, Root, Under, serial_of, within, Tree, TreeToken, Start, Chars, End, opening, grow, grow_all, grow_at}
use Rattle.tree_laws.proofs.Growing.{grow_all-append}
use Rattle.tree_laws.proofs.Matches.{Grown, Grown-all, Grown-opening}
use Rattle.time_laws.proofs.Clocks.{no_fewer}
use Rattle.time_laws.specs.Laws.{TimesRise}
use Rattle.time_laws.specs.Leaving.{acts_told, count_offs, is_closed_and_freed, left_where, next_due, told_by_times, tokens_told}
use Rattle.time_laws.specs.Times.{IsClock, TimedAction, due, timed_acts, tree_at}
use Rattle.trace_check.specs.Telling.{IsCourse, IsTelling, IsToldTo, Puts, acts_in, due_in, fed_counted, fed_node, fed_told, line_in, over_line}
use Rattle.trace_check.specs.Timing.{clock_in, fed_all, fed_at}
use Rattle.trace_check.specs.declared.course.Course.{Course}
use Rattle.trace_check.specs.declared.telling.Told.{Told}
use Rattle.trace_check.specs.declared.timed.Fed.{Fed}
use Rattle.trace_check.specs.declared.timed.Fed.TheVariants as fed
use Rattle.trace_check.proofs.Assembled.{timed_grown}
use Rattle.trace_check.proofs.Clocked.{at_most_one, clocked, fed_few, told_is_trace}
use Rattle.trace_check.proofs.Closings.{closes_at, over_told}
use Rattle.trace_check.proofs.Dues.{due_front}
use Rattle.trace_check.proofs.Feeding.{line_fed, line_first}
use Rattle.trace_check.proofs.Numbers.{in_tree}
use Rattle.trace_check.proofs.Tokens.{AreLeft, token_on, tree_more}
use Rattle.trace_check.proofs.Told.{puts_then}

-- ---- what a token did

single : (xs : List Fed) → length xs ≡ 1 → (x : Fed) × (xs ≡ x ∷ [])
single [] e = absurd (omega (arith, e))
single (x ∷ []) e = (x, refl)
single (x ∷ (y ∷ xs)) e = absurd (omega (arith, e))

-- where each token did something, the first one did, and the others too
one_fed : (t : TreeToken) (ts : List TreeToken) (P : Tree) → length (fed_all (t ∷ ts) P) ≡ suc (length ts) → (x : Fed) × (fed_at P.at t ≡ x ∷ []) × (length (fed_all ts (grow t P)) ≡ length ts)
one_fed t ts P e =
    let a = at_most_one P.at t in
    let b = fed_few ts (grow t P) in
    let f = length-append (fed_at P.at t) (fed_all ts (grow t P)) in
    let one = single (fed_at P.at t) (omega (arith, a, b, e, f)) in
    (one.0, one.1, omega (arith, a, b, e, f))

fed_entry : (ts : List TreeToken) (P : Tree) → length (fed_all ts P) ≡ length ts → (i : ℕ) (d : TreeToken) (f : Fed) → i < length ts
    → fed_at (grow_all (take i ts) P).at (get_or ts i d) ≡ get_or (fed_all ts P) i f ∷ []
fed_entry [] P e i d f l = absurd (omega (arith, l))
fed_entry (t ∷ ts) P e zero d f l = let o = one_fed t ts P e in o.1 ∙ ap (λ (xs : List Fed). get_or (xs ++ fed_all ts (grow t P)) 0 f ∷ []) (sym o.1)
fed_entry (t ∷ ts) P e (suc i) d f l =
    let o = one_fed t ts P e in
    fed_entry ts (grow t P) o.2 i d f (omega (arith, l)) ∙ ap (λ (xs : List Fed). get_or (xs ++ fed_all ts (grow t P)) (suc i) f ∷ []) (sym o.1)

one_same : (a b : Fed) → a ∷ [] ≡ b ∷ [] → a ≡ b
one_same a b h = cc

no_fed : (b : Fed) → ◌≡◌ {A = List Fed} [] (b ∷ []) → ⊥
no_fed b h = cc

-- the node that it opened or closed is there
fed_there : (t : TreeToken) (P : Tree) (f : Fed) → Grown P → fed_at P.at t ≡ f ∷ [] → fed_node (length P.nodes) f < length (grow t P).nodes
fed_there t P f w e = go P.at t refl e
  where
    below : (p : Node) → P.at ≡ Some p → serial_of p < length P.nodes
    below p at = in_tree P w p (w.at_in p at)

    last : (xs : List Node) (n : Node) → length xs < length (xs ++ n ∷ [])
    last xs n = let l = length-append xs (n ∷ []) in omega (arith, l)

    go : (o : Option Node) (s : TreeToken) → P.at ≡ o → fed_at o s ≡ f ∷ [] → fed_node (length P.nodes) f < length (grow_at o s P).nodes
    go None s at e = absurd (no_fed f e)
    go (Some p) (Start name) at e = subst (λ (g : Fed). fed_node (length P.nodes) g < length (grow_at (Some p) (Start name) P).nodes) (one_same fed.Opened f e) (last P.nodes _)
    go (Some p) (Chars b) at e = subst (λ (g : Fed). fed_node (length P.nodes) g < length (grow_at (Some p) (Chars b) P).nodes) (one_same fed.Opened f e) (last P.nodes _)
    go (Some Root) End at e = subst (λ (g : Fed). fed_node (length P.nodes) g < length P.nodes) (one_same (fed.Closed 0) f e) (below Root at)
    go (Some (Under q s k)) End at e = subst (λ (g : Fed). fed_node (length P.nodes) g < length P.nodes) (one_same (fed.Closed s) f e) (below (Under q s k) at)

-- and the nodes are counted
fed_counts : (t : TreeToken) (P : Tree) (f : Fed) (told : Told) → fed_at P.at t ≡ f ∷ [] → suc told.opened ≡ length P.nodes → suc (fed_counted told f).opened ≡ length (grow t P).nodes
fed_counts t P f told e many = go P.at t e
  where
    more : (xs : List Node) (n : Node) → suc told.opened ≡ length xs → suc (suc told.opened) ≡ length (xs ++ n ∷ [])
    more xs n h = let l = length-append xs (n ∷ []) in omega (arith, l, h)

    go : (o : Option Node) (s : TreeToken) → fed_at o s ≡ f ∷ [] → suc (fed_counted told f).opened ≡ length (grow_at o s P).nodes
    go None s e = absurd (no_fed f e)
    go (Some p) (Start name) e = subst (λ (g : Fed). suc (fed_counted told g).opened ≡ length (grow_at (Some p) (Start name) P).nodes) (one_same fed.Opened f e) (more P.nodes _ many)
    go (Some p) (Chars b) e = subst (λ (g : Fed). suc (fed_counted told g).opened ≡ length (grow_at (Some p) (Chars b) P).nodes) (one_same fed.Opened f e) (more P.nodes _ many)
    go (Some Root) End e = subst (λ (g : Fed). suc (fed_counted told g).opened ≡ length P.nodes) (one_same (fed.Closed 0) f e) many
    go (Some (Under q s k)) End e = subst (λ (g : Fed). suc (fed_counted told g).opened ≡ length P.nodes) (one_same (fed.Closed s) f e) many

pub counted_opened : (told : Told) (f : Fed) → (fed_counted told f).opened ≤ suc told.opened
counted_opened told fed.Opened = omega arith
counted_opened told (fed.Closed n) = omega arith

-- the actions that are told stay the same
counted_acts : (told : Told) (f : Fed) → ((fed_counted told f).acts ≡ told.acts) × ((fed_counted told f).signed ≡ told.signed)
counted_acts told fed.Opened = (refl, refl)
counted_acts told (fed.Closed n) = (refl, refl)

within_self : (n : Node) → within (serial_of n) n ≡ true
within_self Root = refl
within_self (Under p s k) = ap (λ b. b || within s p) (eq-eqb s s refl)

-- ---- one token

abbrev pub all_told : PlanTree → Course → List TreeToken → List Line
all_told plan c ts = tokens_told plan (clock_in c.timed) c.timed.tree (timed_acts (clock_in c.timed) c.timed.tree plan) (acts_in plan c) ts opening 0

-- So many tokens are told behind a text.
pub record HasToldTokens (plan : PlanTree) (ts : List TreeToken) (c : Course) (i : ℕ) (from : List ℕ) (now : Told) (to : List ℕ) : Type 0 where
  pub left : AreLeft plan (clock_in c.timed) c.timed.tree (timed_acts (clock_in c.timed) c.timed.tree plan) (acts_in plan c) ts from (all_told plan c ts) i to
  pub told : IsToldTo plan c i now
  pub opened : suc now.opened ≡ length (tree_at ts i).nodes

module _ (rise : TimesRise) (plan : PlanTree) (ts : List TreeToken) (c : Course) (is : IsCourse plan ts c) (i : ℕ) (l : i < length ts) (f : Fed) (at : f ≡ get_or c.timed.fed.items i f) where
  abbrev C : Tree
  C = c.timed.tree

  abbrev P : Tree
  P = tree_at ts i

  abbrev T : List TimedAction
  T = timed_acts (clock_in c.timed) c.timed.tree plan

  abbrev us : List TreeToken
  us = ts ++ is.timed.closed.closing

  abbrev t : TreeToken
  t = get_or ts i End

  longer : i < length us
  longer = let n = length-append ts is.timed.closed.closing in omega (arith, n, l)

  front : take i us ≡ take i ts
  front = take-append-le i ts is.timed.closed.closing (omega (arith, l))

  same_tree : tree_at us i ≡ P
  same_tree = ap (λ (xs : List TreeToken). grow_all xs opening) front

  same_token : get_or us i End ≡ t
  same_token = get_or_append_left ts is.timed.closed.closing End i l

  grown_on : tree_at us (suc i) ≡ grow t P
  grown_on = tree_more us i End longer ∙ (ap (λ (x : TreeToken). grow x (tree_at us i)) same_token ∙ ap (grow t) same_tree)

  did : fed_at P.at t ≡ f ∷ []
  did =
      ap (λ (Q : Tree). fed_at Q.at t) (sym same_tree)
      ∙ (ap (fed_at (tree_at us i).at) (sym same_token)
      ∙ (fed_entry us opening (sym (ap length is.timed.closed.taken.fed_is) ∙ is.timed.closed.taken.counted) i End f longer
      ∙ (ap (λ (xs : List Fed). get_or xs i f ∷ []) (sym is.timed.closed.taken.fed_is) ∙ ap (λ (g : Fed). g ∷ []) (sym at))))

  clock : IsClock (clock_in c.timed) us C (length us)
  clock = clocked us c.timed is.timed.closed.taken is.timed.closed.shut

  whole_on : C ≡ grow_all (drop (suc i) us) (grow t P)
  whole_on =
      is.timed.closed.taken.tree_is
      ∙ (ap (λ (xs : List TreeToken). grow_all xs opening) (sym (take-append-drop (suc i) us))
      ∙ (grow_all-append (take (suc i) us) (drop (suc i) us) opening ∙ ap (grow_all (drop (suc i) us)) grown_on))

  grown_at : Grown P
  grown_at = Grown-all (take i ts) opening Grown-opening

  many : length (grow t P).nodes ≤ length C.nodes
  many = let h = no_fewer (drop (suc i) us) (grow t P) in let e = ap (λ (Q : Tree). length Q.nodes) whole_on in omega (arith, h, e)

  there : fed_node (length P.nodes) f < length C.nodes
  there = let h = fed_there t P f grown_at did in omega (arith, h, many)

  alone : (n : Node) → In n C.nodes → (clock_in c.timed).closed (serial_of n) ≡ suc i → serial_of n ≡ fed_node (length P.nodes) f
  alone n h e =
      closes_at (clock_in c.timed) us C (length us) i clock (omega (arith, longer)) t (grown_on ∙ ap (grow t) (sym same_tree)) f (ap (λ (Q : Tree). fed_at Q.at t) same_tree ∙ did) n h
      (clock.inside n n h h (within_self n)).0 e
      ∙ ap (λ (Q : Tree). fed_node (length Q.nodes) f) same_tree

  -- the actions of the time before are the first of this one's
  first_due : (rest : List Action) × (due_in plan c (suc i) ≡ due_in plan c i ++ rest)
  first_due = due_front T (rise (clock_in c.timed) C plan) i (suc i) (omega arith)

  pub begins : (told : Told) → IsToldTo plan c i told → IsTelling plan c (suc i) (fed_counted told f)
  begins told h =
      let a = counted_acts told f in
      let n = ap length first_due.1 ∙ length-append (due_in plan c i) first_due.0 in
      let acts : (fed_counted told f).acts ≡ length (due_in plan c i) = a.0 ∙ h.acts in
      record {
        acts = omega (arith, n, acts);
        signed = a.1 ∙ (h.signed ∙ ap count_offs (sym (ap (λ (k : ℕ). take k (due_in plan c (suc i))) acts ∙ (ap (take (length (due_in plan c i))) first_due.1 ∙ take-append_seam (due_in plan c i) first_due.0))));
      }

  -- one token more is told, up to the time k
  abbrev pub TellsToken : ℕ → Type 0
  TellsToken k = (from text one two three : List ℕ) (told mid new : Told) (node : ℕ) → HasToldTokens plan ts c i from told text
      → Puts text one (fed_told plan c (suc told.opened) f) → node ≡ fed_node (suc told.opened) f → mid ≡ fed_counted told f
      → Puts one two (over_line (clock_in c.timed) c.leaving.until.items k mid.signed node)
      → (IsTelling plan c k mid → Puts two three (acts_told (clock_in c.timed) C (acts_in plan c) k mid.signed (drop mid.acts (due_in plan c k))))
      → (IsTelling plan c k mid → IsToldTo plan c k new) → new.opened ≡ mid.opened → HasToldTokens plan ts c k from new three

  token_told : TellsToken (suc i)
  token_told from text one two three told mid new node h fed at_node counted over acts told_on opened =
      let telling : IsTelling plan c (suc i) mid = subst (λ (m : Told). IsTelling plan c (suc i) m) (sym counted) (begins told h.told) in
      let a = counted_acts told f in
      let signed : mid.signed ≡ count_offs (due i T) = ap (λ (m : Told). m.signed) counted ∙ (a.1 ∙ h.told.signed) in
      let taken : mid.acts ≡ length (due i T) = ap (λ (m : Told). m.acts) counted ∙ (a.0 ∙ h.told.acts) in
      let is_node : node ≡ fed_node (length P.nodes) f = at_node ∙ ap (λ (k : ℕ). fed_node k f) h.opened in
      let F : List Line = fed_told plan c (suc told.opened) f in
      let O : List Line = over_line (clock_in c.timed) c.leaving.until.items (suc i) mid.signed node in
      let A : List Line = acts_told (clock_in c.timed) C (acts_in plan c) (suc i) mid.signed (drop mid.acts (due_in plan c (suc i))) in
      let feeds : F ≡ feed_line plan t P.at P (grow t P)
      = ap (λ (k : ℕ). fed_told plan c k f) h.opened ∙ sym (line_fed plan c clock.grown P grown_at t (drop (suc i) us) whole_on f did) in
      let overs : O ≡ left_where C (is_closed_and_freed (clock_in c.timed) C (acts_in plan c) (suc i) (count_offs (due i T)))
      = ap (λ (k : ℕ). over_line (clock_in c.timed) c.leaving.until.items (suc i) k node) signed
      ∙ (ap (λ (u : List ℕ). over_line (clock_in c.timed) u (suc i) (count_offs (due i T)) node) is.wanted.until_is
      ∙ sym (over_told (clock_in c.timed) C clock.grown (acts_in plan c) (suc i) (count_offs (due i T)) node (subst (λ (k : ℕ). k < length C.nodes) (sym is_node) there) (λ m k e. alone m k e ∙ sym is_node))) in
      let does : A ≡ acts_told (clock_in c.timed) C (acts_in plan c) (suc i) (count_offs (due i T)) (next_due T i)
      = ap (λ (k : ℕ). acts_told (clock_in c.timed) C (acts_in plan c) (suc i) k (drop mid.acts (due_in plan c (suc i)))) signed
      ∙ ap (λ (k : ℕ). acts_told (clock_in c.timed) C (acts_in plan c) (suc i) (count_offs (due i T)) (drop k (due_in plan c (suc i)))) taken in
      record {
        left = token_on plan (clock_in c.timed) C T (acts_in plan c) ts from (all_told plan c ts) i End text one two three F O A l feeds overs does fed over (acts telling) h.left;
        told = told_on telling;
        opened = ap suc opened ∙ (ap (λ (m : Told). suc m.opened) counted ∙ (fed_counts t P f told did h.opened ∙ ap (λ (Q : Tree). length Q.nodes) (sym (tree_more ts i End l))));
      }

  pub token_at : (k : ℕ) → k ≡ suc i → TellsToken k
  token_at k e = subst TellsToken (sym e) token_told

-- ---- the whole trace

-- the line of the document node, the actions before any token, and the tokens
pub whole_told : (plan : PlanTree) (ts : List TreeToken) (c : Course) → IsCourse plan ts c → (start one two three : List ℕ) → Puts start one (line_in plan c 0 ∷ [])
    → Puts one two (acts_told (clock_in c.timed) c.timed.tree (acts_in plan c) 0 0 (due_in plan c 0)) → Puts two three (all_told plan c ts)
    → Puts start three (told_by_times plan (clock_in c.timed) c.timed.tree (timed_acts (clock_in c.timed) c.timed.tree plan) (acts_in plan c) ts)
whole_told plan ts c is start one two three p q r =
    let first : opened_line plan opening Root ≡ line_in plan c 0 = line_first plan c (timed_grown ts c.timed is.timed) (ts ++ is.timed.closed.closing) is.timed.closed.taken.tree_is in
    let A : List Line = acts_told (clock_in c.timed) c.timed.tree (acts_in plan c) 0 0 (due_in plan c 0) in
    subst (λ (l : Line). Puts start three (l ∷ (A ++ all_told plan c ts))) (sym first)
    (puts_then start one three (line_in plan c 0 ∷ []) (A ++ all_told plan c ts) p (puts_then one two three A (all_told plan c ts) q r))

-- before any token nothing is told
pub telling_none : (plan : PlanTree) (c : Course) (told : Told) → told.acts ≡ 0 → told.signed ≡ 0 → IsTelling plan c 0 told
telling_none plan c told a s = record { acts = omega (arith, a); signed = s ∙ ap (λ (k : ℕ). count_offs (take k (due_in plan c 0))) (sym a) }

-- so the trace is told
pub trace_told : (core : BodyTree) → Good core → (plan : PlanTree) → Placed core plan → (ts : List TreeToken) (c : Course) → may_all ts opening ≡ true → IsCourse plan ts c → (start text : List ℕ)
    → Puts start text (told_by_times plan (clock_in c.timed) c.timed.tree (timed_acts (clock_in c.timed) c.timed.tree plan) (acts_in plan c) ts) → Puts start text (trace_lines plan ts)
trace_told core good plan placed ts c may is start text h =
    subst (λ (ls : List Line). Puts start text ls) (sym (told_is_trace core good plan placed ts c.timed may is.timed.closed)) h
