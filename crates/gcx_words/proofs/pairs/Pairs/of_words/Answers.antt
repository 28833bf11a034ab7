use Rattle.std.proofs.Common.{◌≡◌, ◌<◌, ◌≤◌, ◌+◌, ◌++◌, ◌∷◌, List, [], length, map, ap, rules, arith}
use Rattle.gcx_words.specs.Pairs.{paired}
use Rattle.gcx_words.specs.declared.pairs.Pair.{Pair}
use Rattle.gcx_words.proofs.Pairing.{pair_more, pairs_all}
use Rattle.gcx_words.proofs.pairs.Pairs.of_words.Goals as goal

pub pairs-init : goal.pairs-init
pairs-init c = record {
  built = ap (λ (z : List Pair). z ++ paired (map (λ w. w.now) c.args.words.now)) c.new-members.ensures.items;
  within = omega arith;
}

pub pairs-preserved : goal.pairs-preserved
pairs-preserved c =
    let t = c.pairs-test.true in
    let l : c.pairs.at + 1 < length c.args.words.now = omega (arith, t) in
    let pushed : c.push.new.self.items ≡ c.pairs.members.items ++ c.in_ok-pair_of.field-0 ∷ [] = search rules in
    record {
      built = pair_more (λ w. w.now) c.args.words.now c.pairs.at (record { ref_ptr = (0, 0); now = [] }) c.pairs.members.items c.push.new.self.items c.in_ok-pair_of.field-0 l pushed c.in_ok-pair_of.ensures c.pairs.invariant.built;
      within = omega (arith, l);
    }

pub returns : goal.returns
returns c =
    let t = c.pairs-test.false in
    let past : length c.args.words.now ≤ c.pairs.at + 1 = omega (arith, t) in
    pairs_all (λ w. w.now) c.args.words.now c.pairs.at c.pairs.members.items past c.pairs.invariant.built
