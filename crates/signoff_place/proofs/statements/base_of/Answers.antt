use Rattle.std.proofs.Common.{ℕ, zero, suc, ◌≡◌, ◌-◌, ◌≤◌, List, [], ◌∷◌, map, get_or, unwrap_or, refl, ap, sym, ◌∙◌, arith}
use Rattle.gcx_base.specs.declared.ids.VarId.{VarId}
use Rattle.signoff_place.specs.Spread.{base_at}
use Rattle.signoff_place.proofs.statements.base_of.Goals as goal

found : (fsa : List VarId) (none : VarId) (x k : ℕ) → none.0 ≡ 0 → x ≡ suc k → (get_or fsa k none).0 ≡ base_at (map (λ (y : VarId). y.0) fsa) x
found fsa none x k e h = at fsa k ∙ ap (base_at (map (λ (y : VarId). y.0) fsa)) (sym h)
  where
    at : (ys : List VarId) (j : ℕ) → (get_or ys j none).0 ≡ base_at (map (λ (y : VarId). y.0) ys) (suc j)
    at [] j = e
    at (y ∷ ys) zero = refl
    at (y ∷ ys) (suc j) = at ys j

pub returns : goal.returns
returns c =
    let none : VarId = record { 0 = 0 } in
    let within : c.args.var.0 - 1 ≤ c.args.var.0 - 1 = omega arith in
    ap (λ (v : VarId). v.0) (c.unwrap_or.ensures ∙ (ap (λ o. unwrap_or o none) c.copied.ensures ∙ c.get.ensures.lookup.4 within none))
    ∙ found c.args.fsa.now none c.args.var.0 (c.args.var.0 - 1) refl (omega (arith, c.if-var-eq0.false))
