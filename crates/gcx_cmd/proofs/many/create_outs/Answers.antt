use Rattle.std.proofs.Common.{◌≡◌, ◌∙◌, ◌∷◌, ◌++◌, ◌+◌, ◌≤◌, suc, List, ℕ, [], get_or, inr, length, map, take, drop, rules, refl, sym, subst, append_assoc, arith}
use Rattle.std.proofs.lemmas.Grind.{common_steps}
use Rattle.std.proofs.lemmas.List.{take_all, take_more}
use Rattle.std.proofs.lemmas.Result.{err_from_is_err_and}
use Rattle.gcx_io.specs.declared.shelf.Handle.{Handle}
use Rattle.gcx_words.specs.declared.pairs.Pair.{Pair}
use Rattle.gcx_cmd.proofs.Manies.{fails_at_out, makes_on, out_among, split_pairs}
use Rattle.gcx_cmd.proofs.ManyKept.{kept_none, kept_on}
use Rattle.gcx_cmd.specs.ManyDoes.{MakesOuts, StopsInOuts}
use Rattle.gcx_cmd.proofs.many.create_outs.Goals as goal

pub pairs-init : goal.pairs-init
pairs-init g c = record {
  made = subst (λ (z : List Handle). MakesOuts [] (g.F.Shelf.seen c.args.files.now) (g.F.Shelf.seen c.args.files.now) z) (sym c.new-outs.ensures.items) refl;
  keeps = kept_none (map (λ p. p.out) c.args.pairs.now) (g.F.Shelf.seen c.args.files.now);
}

pub returns-in_err-handle-clause-stops : goal.returns-in_err-handle-clause-stops
returns-in_err-handle-clause-stops g c =
    let e = c.in_err-handle.field-0.0 in
    let stops : StopsInOuts c.args.pairs.now e (g.F.Shelf.seen c.args.files.now) (g.F.Shelf.seen c.create.new.files) =
    fails_at_out c.args.pairs.now c.pairs.pair-index c.pair-item.result c.pairs-test.true (search rules) (g.F.Shelf.seen c.args.files.now) (g.F.Shelf.seen c.pairs.files) c.pairs.outs.items c.pairs.invariant.made e
    (g.F.Shelf.seen c.create.new.files) c.in_err-handle.ensures.fails in
    let p = err_from_is_err_and c.from_residual.result c.from_residual.ensures.1 in
    rw (p.1, p.2) stops

pub returns-in_err-handle-clause-keeps : goal.returns-in_err-handle-clause-keeps
returns-in_err-handle-clause-keeps g c =
    let outs : List (List ℕ) = map (λ (p : Pair). p.out) c.args.pairs.now in
    kept_on outs (g.F.Shelf.seen c.args.files.now) (g.F.Shelf.seen c.pairs.files) (g.F.Shelf.seen c.create.new.files) c.pairs.invariant.keeps
    (c.create.ensures.keeps outs (out_among c.args.pairs.now c.pairs.pair-index c.pair-item.result c.pairs-test.true (search rules)))

pub returns-then-is_err-clause-stops : goal.returns-then-is_err-clause-stops
returns-then-is_err-clause-stops g c =
    let k = c.pairs.pair-index in
    let p = c.pair-item.result in
    let ps = c.args.pairs.now in
    let split = split_pairs ps k p c.pairs-test.true (search rules) in
    inr (
      take k ps ++ p ∷ [],
      drop (suc k) ps,
      c.pairs.outs.items ++ c.in_ok-handle.handle ∷ [],
      split ∙ sym (append_assoc (take k ps) (p ∷ []) (drop (suc k) ps)),
      makes_on (take k ps) p c.pairs.outs.items c.in_ok-handle.handle (g.F.Shelf.seen c.args.files.now) (g.F.Shelf.seen c.pairs.files) (g.F.Shelf.seen c.create.new.files) c.pairs.invariant.made c.in_ok-handle.ensures.made,
    )

pub returns-then-is_err-clause-keeps : goal.returns-then-is_err-clause-keeps
returns-then-is_err-clause-keeps g c =
    let outs : List (List ℕ) = map (λ (p : Pair). p.out) c.args.pairs.now in
    kept_on outs (g.F.Shelf.seen c.args.files.now) (g.F.Shelf.seen c.pairs.files) (g.F.Shelf.seen c.create.new.files) c.pairs.invariant.keeps
    (c.create.ensures.keeps outs (out_among c.args.pairs.now c.pairs.pair-index c.pair-item.result c.pairs-test.true (search rules)))

pub pairs-preserved : goal.pairs-preserved
pairs-preserved g c =
    let k = c.pairs.pair-index in
    let p = c.pair-item.result in
    let ps = c.args.pairs.now in
    let outs : List (List ℕ) = map (λ (q : Pair). q.out) ps in
    let a = g.F.Shelf.seen c.args.files.now in
    let b = g.F.Shelf.seen c.create.new.files in
    let same : get_or ps k p ≡ p = search rules in
    let more : take (k + 1) ps ≡ take k ps ++ p ∷ [] = subst (λ (z : Pair). take (k + 1) ps ≡ take k ps ++ z ∷ []) same (take_more ps k p c.pairs-test.true) in
    let next = makes_on (take k ps) p c.pairs.outs.items c.in_ok-handle.handle a (g.F.Shelf.seen c.pairs.files) b c.pairs.invariant.made c.in_ok-handle.ensures.made in
    let pushed : c.push.new.self.items ≡ c.pairs.outs.items ++ c.in_ok-handle.handle ∷ [] = grind (arith, common_steps) in
    record {
      made = subst (λ (z : List Pair). MakesOuts z a b c.push.new.self.items) (sym more) (subst (λ (z : List Handle). MakesOuts (take k ps ++ p ∷ []) a b z) (sym pushed) next);
      keeps = kept_on outs a (g.F.Shelf.seen c.pairs.files) b c.pairs.invariant.keeps (c.create.ensures.keeps outs (out_among ps k p c.pairs-test.true (search rules)));
    }

pub returns-clause-made : goal.returns-clause-made
returns-clause-made g c =
    let past : length c.args.pairs.now ≤ c.pairs.pair-index = search rules in
    subst (λ (z : List Pair). MakesOuts z (g.F.Shelf.seen c.args.files.now) (g.F.Shelf.seen c.pairs.files) c.pairs.outs.items) (take_all c.pairs.pair-index c.args.pairs.now past) c.pairs.invariant.made

pub returns-clause-keeps : goal.returns-clause-keeps
returns-clause-keeps g c = c.pairs.invariant.keeps
