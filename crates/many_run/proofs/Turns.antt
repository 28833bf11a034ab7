-- What a turn of a run takes from the calls that it makes.
use Rattle.std.proofs.Common.{◌≡◌, ◌∙◌, ℕ, suc, ◌≤◌, Bool, false, List, [], ◌∷◌, length, map, None, refl, sym, ap}
use Rattle.std.specs.Prelude.{Result, ⊤}
use Rattle.std.proofs.lemmas.List.{length-map}
use Rattle.gcx_base.specs.declared.limits.Limits.{Limits}
use Rattle.gcx_io.specs.Views.{ShelfView}
use Rattle.gcx_io.specs.declared.shelf.Handle.{Handle}
use Rattle.gcx_model.specs.Tree.{Tree}
use Rattle.gcx_model.specs.declared.fault.DocFault.{DocFault}
use Rattle.gcx_model.specs.declared.plan.Plan.{Plan}
use Rattle.engine.specs.Engine.{GrewBy, GrewWithin, OnAnswer}
use Rattle.engine.proofs.ReadingOn.{answer_both}
use Rattle.engine.proofs.Waiting.{on_none}
use Rattle.many_run.specs.Each.{AtEach}
use Rattle.many_run.specs.Files.{LeavesTheRest}
use Rattle.many_run.specs.Many.{ManyKept, ManyLost, ManyStand, ManyStandSome, MayFeedMany, PartGrew, plans_of}
use Rattle.many_run.specs.Runs.{ManyGoOnFrom, MayWrite, OnlyWritten}
use Rattle.many_run.specs.View.{ManyView}
use Rattle.run_part.specs.View.{PartView}
use Rattle.many_run.proofs.Lists.{each_map}
use Rattle.many_run.proofs.Pieces.{bytes_small}
use Rattle.many_run.proofs.Writing.{apart_on}

module _ {C : Type 0} where
  -- the parts are those of the same plans
  abbrev SamePlans : (a b : ManyView C) → Type 0
  SamePlans a b = AtEach (λ (p q : PartView C). q.plan ≡ p.plan) a.parts b.parts

  plans_same : (xs ys : List (PartView C)) → AtEach (λ p q. q.plan ≡ p.plan) xs ys → map (λ p. p.plan) ys ≡ map (λ p. p.plan) xs
  plans_same [] [] h = refl
  plans_same [] (y ∷ ys) h = let no = h.count in absurd (cc)
  plans_same (x ∷ xs) [] h = let no = h.count in absurd (cc)
  plans_same (x ∷ xs) (y ∷ ys) h =
      let rest = plans_same xs ys (record { count = less (length ys) (length xs) h.count; each = λ i p q is_p is_q. h.each (suc i) p q is_p is_q }) in
      ap (λ (z : Plan). z ∷ map (λ p. p.plan) ys) (h.each 0 x y refl refl) ∙ ap (λ (l : List Plan). x.plan ∷ l) rest
    where
      less : (m n : ℕ) → suc m ≡ suc n → m ≡ n
      less m n e = cc

  pub plans_of_same : (a b : ManyView C) → SamePlans a b → plans_of b ≡ plans_of a
  plans_of_same a b h = plans_same a.parts b.parts h

  -- a call of the plans leaves them their plans
  pub called_same : (stands : C → Tree → Type 0) (lim : Limits) (old new : ManyView C) (b : List ℕ) (was : Bool) (c : List ℕ) (ended : Bool) (r : Result ⊤ DocFault)
      → OnAnswer r (ManyLost lim old new b was c ended) (ManyKept stands lim old new b was c ended) → SamePlans old new
  called_same stands lim old new b was c ended r h =
      answer_both r
      (λ (l : ManyLost lim old new b was c ended). each_map (PartGrew (λ plan. GrewWithin plan lim b was c ended)) (λ p q. q.plan ≡ p.plan) old.parts new.parts (λ p q g. g.plan) l)
      (λ (k : ManyKept stands lim old new b was c ended). each_map (PartGrew (λ plan. GrewBy plan lim b was c ended)) (λ p q. q.plan ≡ p.plan) old.parts new.parts (λ p q g. g.plan) k.grew)
      h

  pub written_same : (a b : ManyView C) → OnlyWritten a b → SamePlans a b
  written_same a b h = each_map {X = PartView C} {Y = PartView C} (λ p q. q ≡ record p { out = q.out }) (λ p q. q.plan ≡ p.plan) a.parts b.parts (λ p q same. ap (λ (z : PartView C). z.plan) same) h.each

  -- the files may be written to later, too
  pub may_later : (R : ℕ → Type 0) (a b : ManyView C) (s t : ShelfView) (doc : Handle) (outs : List Handle) → MayWrite a s doc outs → SamePlans a b → LeavesTheRest R outs s t → MayWrite b t doc outs
  may_later R a b s t doc outs may same rest = record { count = may.count ∙ sym same.count; apart = apart_on R s t doc outs rest may.apart }

  pub may_go : (stands : C → Tree → Type 0) (lim : Limits) (m : ManyView C) (b : List ℕ) (ended : Bool) → ManyStand stands lim m b ended → m.refused ≡ None → MayFeedMany stands m ended
  may_go stands lim m b ended s fresh = on_none m.refused (Unit {0}) (ManyStandSome stands m ended) fresh (record { limits = lim; read = b; of = s })

  pub few_bytes : (stands : C → Tree → Type 0) (lim : Limits) (m : ManyView C) → ManyGoOnFrom stands lim m → m.bytes ≤ 1099511627776
  few_bytes stands lim m s = bytes_small stands lim m s.read false s.of s.fresh

  pub counted_plans : (m : ManyView C) (plans : List Plan) → plans_of m ≡ plans → length plans ≡ length m.parts
  counted_plans m plans are = sym (ap length are) ∙ length-map m.parts (λ (p : PartView C). p.plan)
