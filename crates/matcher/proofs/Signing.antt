-- One statement more is signed.
use Rattle.std.proofs.Common.{◌≡◌, ℕ, suc, ◌+◌, ◌-◌, ◌<◌, ◌≤◌, Bool, true, false, List, [], ◌∷◌, ◌++◌, length, refl, sym, ◌∙◌, ap, subst, inl, inr, ◌⊎◌, arith, Some, Option}
use Rattle.std.specs.Prelude.{slice_get}
use Rattle.std.proofs.lemmas.Bool.{false≢true, false_from_ne_true}
use Rattle.gcx_model.specs.Tree.{Node, serial_of, above}
use Rattle.gcx_model.specs.Paths.{matches}
use Rattle.gcx_model.specs.Nodes.{Grown}
use Rattle.gcx_model.specs.Growth.{level}
use Rattle.gcx_model.specs.Core.{OffTree}
use Rattle.gcx_model.specs.Run.{Offed}
use Rattle.gcx_model.specs.Held.{path_of, signed}
use Rattle.gcx_model.specs.Placed.{offs_in}
use Rattle.gcx_model.specs.Past.{Past, IsLast, past_acted, open_from, open_nodes}
use Rattle.tree_laws.proofs.Lists.{In, In-left, In-right, In-append}
use Rattle.tree_laws.proofs.Matches.{Numbered-same, Matches-in}
use Rattle.tree_laws.proofs.Chains.{above_in, above_self}
use Rattle.tree_laws.proofs.Growing.{level_above}
use Rattle.tree_laws.proofs.OffsSigned.{signed_is_off}
use Rattle.past_laws.proofs.PastForms.{past_acts, offed_same}
use Rattle.tree_laws.proofs.Fed.{grown_from}
use Rattle.path_states.specs.Lists.{Gains}
use Rattle.matcher.specs.Frame.{IsFrame}
use Rattle.matcher.specs.Matcher.{MatcherAt, IsSign}
use Rattle.matcher.specs.Signs.{InTurn}
use Rattle.matcher.specs.View.{FrameView, MatcherView}
use Rattle.matcher.specs.declared.signs.Sign.{Sign}
use Rattle.matcher.proofs.Aheads.{innermost_in}

sign_is : (a b : Sign) → a.role ≡ b.role → a.level ≡ b.level → a.steps ≡ b.steps → a ≡ b
sign_is a b e f g = ap (λ (z : ℕ). record { role = z; level = a.level; steps = a.steps }) e ∙ (ap (λ (z : ℕ). record { role = b.role; level = z; steps = a.steps }) f ∙ ap (λ (z : ℕ). record { role = b.role; level = b.level; steps = z }) g)

-- one frame is noted as one at which a statement is signed, and the others stay
pub record SignedFrames (before now : List FrameView) (at : ℕ) : Type 0 where
  pub count : length now ≡ length before
  pub each : (i : ℕ) (f : FrameView) → slice_get now i ≡ Some f → (g : FrameView) × (slice_get before i ≡ Some g) × ((f ≡ record g { signed = f.signed }) × ((g.signed ≡ true → f.signed ≡ true) × (i ≡ at → f.signed ≡ true)))

-- a frame may be noted so though no statement is signed at its node
pub noted_more : (m : MatcherView) (past : Past) (text : Bool) → MatcherAt m past text → (frames : List FrameView) (at : ℕ) → SignedFrames m.frames frames at → MatcherAt (record m { frames = frames }) past text
noted_more m past text S frames at noted = record {
  is_past = S.is_past;
  tree = S.tree;
  flag = S.flag;
  here = S.here;
  innermost = S.innermost;
  some = subst (λ (z : ℕ). 0 < z) (sym noted.count) S.some;
  levels = ap (λ (z : ℕ). z + m.idle) noted.count ∙ S.levels;
  frames = λ a f i e.
      let p = noted.each (level a) f e in
      let r = S.frames a p.0 i p.1 in
      subst (λ (z : FrameView). IsFrame past.plan past.tree m.tree.states.items S.tree.path z a) (sym p.2.0) (record { active = r.active; pending = r.pending; whole = r.whole; climbs = r.climbs; unfound = r.unfound; found = r.found });
  idle = λ a i l c j. S.idle a i (subst (λ (z : ℕ). z ≤ level a) noted.count l) c j;
  over = λ f e j.
      let p = noted.each (length frames - 1) f e in
      let r = S.over p.0 (subst (λ (z : ℕ). slice_get m.frames (z - 1) ≡ Some p.0) noted.count p.1) j in
      elim r [ inl y ↦ inl (ap (λ (z : FrameView). z.pending) p.2.0 ∙ y) | inr y ↦ inr y ];
  signs = S.signs;
  marked = λ s f i e. let p = noted.each s.level f e in p.2.1.0 (S.marked s p.0 i p.1);
  turn = S.turn;
  fresh = S.fresh;
}

module _ (m : MatcherView) (past : Past) (text : Bool) (S : MatcherAt m past text) (o : OffTree) (of : In o (offs_in past.plan.body)) (k : Node) (is_open : In k (open_nodes past.tree))
    (base : In k (matches past.tree 0 (path_of past.plan o.base))) (x : Sign) (role : o.role ≡ x.role) (at : level k ≡ x.level) (steps : length o.rel ≡ x.steps)
    (frames : List FrameView) (signs : List Sign) (noted : SignedFrames m.frames frames x.level) (gains : Gains m.signs signs (λ s. x ≡ s)) (turn : InTurn signs) where
  w : Grown past.tree
  w = grown_from past.tree S.is_past.grown

  here_in : In S.here past.tree.nodes
  here_in = innermost_in past.tree w text S.here S.innermost

  k_in : In k past.tree.nodes
  k_in = (Matches-in past.tree 0 (path_of past.plan o.base) k base).0

  -- a text is closed, and lies below the open nodes
  above_here : (b : Bool) (a : Node) → IsLast past.tree b a → (In k (above a)) × (b ≡ true → k ≡ a → ⊥)
  above_here false a h = (subst (λ (z : Option Node). In k (open_from z)) h is_open, λ e. absurd (cc))
  above_here true a h =
      let up : In k (above h.0) = subst (λ (z : Option Node). In k (open_from z)) h.5 is_open in (
        subst (λ (z : Node). In k (above z)) (sym h.4) (inr up),
        (λ e f. (
            let l = level_above h.0 k up in
            let g : level k ≡ suc (level h.0) = ap level (f ∙ h.4) in
            omega arith)),
      )

  k_above : In k (above S.here)
  k_above = (above_here text S.here S.innermost).0

  -- what was signed stays so
  stays_signed : (p : OffTree) (j : Node) → signed past.acts p j ≡ true → signed (past.acts ++ Offed o (serial_of k) ∷ []) p j ≡ true
  stays_signed p j h = (signed_is_off (past.acts ++ Offed o (serial_of k) ∷ []) p j).1 (In-left (Offed p (serial_of j)) past.acts (Offed o (serial_of k) ∷ []) ((signed_is_off past.acts p j).0 h))

  now_signed : signed (past.acts ++ Offed o (serial_of k) ∷ []) o k ≡ true
  now_signed = (signed_is_off (past.acts ++ Offed o (serial_of k) ∷ []) o k).1 (In-right (Offed o (serial_of k)) past.acts (Offed o (serial_of k) ∷ []) (inl refl))

  -- and nothing else but this
  was_signed : (p : OffTree) (j : Node) → In j (above S.here) → signed (past.acts ++ Offed o (serial_of k) ∷ []) p j ≡ true → (signed past.acts p j ≡ true) ⊎ ((o ≡ p) × (k ≡ j))
  was_signed p j u h = elim (In-append (Offed p (serial_of j)) past.acts (Offed o (serial_of k) ∷ []) ((signed_is_off (past.acts ++ Offed o (serial_of k) ∷ []) p j).0 h)) [
    | inl i ↦ inl ((signed_is_off past.acts p j).1 i)
    | inr i ↦ elim i [
      | inl e ↦ (let q = offed_same o p (serial_of k) (serial_of j) e in
          inr (q.0, Numbered-same 0 past.tree.nodes w.numbered k j k_in (above_in past.tree w S.here j here_in u) q.1))
      | inr b ↦ absurd b
    ]
  ]

  sign_to : (s : Sign) → In s signs → IsSign (past_acted (Offed o (serial_of k)) past) S.here s
  sign_to s i = elim ((gains.has s).0 i) [
    | inl j ↦ (let g = (S.signs s).0 j in record { off = g.off; of = g.of; role = g.role; steps = g.steps; node = g.node; among = g.among; at = g.at; is = stays_signed g.off g.node g.is })
    | inr e ↦ subst (λ (z : Sign). IsSign (past_acted (Offed o (serial_of k)) past) S.here z) e (record { off = o; of = of; role = role; steps = steps; node = k; among = k_above; at = at; is = now_signed })
  ]

  sign_from : (s : Sign) → IsSign (past_acted (Offed o (serial_of k)) past) S.here s → In s signs
  sign_from s g = (gains.has s).1 (elim (was_signed g.off g.node g.among g.is) [
    | inl h ↦ inl ((S.signs s).1 (record { off = g.off; of = g.of; role = g.role; steps = g.steps; node = g.node; among = g.among; at = g.at; is = h }))
    | inr h ↦ inr (sign_is x s (sym role ∙ (ap (λ (z : OffTree). z.role) h.0 ∙ g.role)) (sym at ∙ (ap level h.1 ∙ g.at)) (sym steps ∙ (ap (λ (z : OffTree). length z.rel) h.0 ∙ g.steps)))
  ])

  -- a text is signed at none
  still_fresh : text ≡ true → (p : OffTree) → signed (past.acts ++ Offed o (serial_of k) ∷ []) p S.here ≡ false
  still_fresh e p = false_from_ne_true (signed (past.acts ++ Offed o (serial_of k) ∷ []) p S.here) (λ h. elim (was_signed p S.here (above_self S.here) h) [
    | inl g ↦ false≢true (sym (S.fresh e p) ∙ g)
    | inr g ↦ (above_here text S.here S.innermost).1 e g.1
  ])

  pub signs_more : MatcherAt (record m { frames = frames; signs = signs }) (past_acted (Offed o (serial_of k)) past) text
  signs_more = record {
    is_past = (past_acts past S.is_past).1 o k of base;
    tree = S.tree;
    flag = S.flag;
    here = S.here;
    innermost = S.innermost;
    some = subst (λ (z : ℕ). 0 < z) (sym noted.count) S.some;
    levels = ap (λ (z : ℕ). z + m.idle) noted.count ∙ S.levels;
    frames = λ a f i e.
        let p = noted.each (level a) f e in
        let r = S.frames a p.0 i p.1 in
        subst (λ (z : FrameView). IsFrame past.plan past.tree m.tree.states.items S.tree.path z a) (sym p.2.0) (record { active = r.active; pending = r.pending; whole = r.whole; climbs = r.climbs; unfound = r.unfound; found = r.found });
    idle = λ a i l c j. S.idle a i (subst (λ (z : ℕ). z ≤ level a) noted.count l) c j;
    over = λ f e j.
        let p = noted.each (length frames - 1) f e in
        let r = S.over p.0 (subst (λ (z : ℕ). slice_get m.frames (z - 1) ≡ Some p.0) noted.count p.1) j in
        elim r [ inl y ↦ inl (ap (λ (z : FrameView). z.pending) p.2.0 ∙ y) | inr y ↦ inr y ];
    signs = λ s. (sign_to s, sign_from s);
    marked = λ s f i e.
        let p = noted.each s.level f e in
        elim ((gains.has s).0 i) [
          | inl j ↦ p.2.1.0 (S.marked s p.0 j p.1)
          | inr y ↦ p.2.1.1 (sym (ap (λ (z : Sign). z.level) y))
        ];
    turn = turn;
    fresh = still_fresh;
  }
