use Rattle.std.proofs.Common.{◌≡◌, ℕ, suc, ◌++◌, length, map, take, drop, ◌∙◌, ap, arith}
use Rattle.gcx_model.specs.Members.{count}
use Rattle.gcx_model.specs.Tree.{Node}
use Rattle.time_laws.specs.Leaving.{last_of}
use Rattle.trace_check.specs.Wanting.{by_node, greatest_in, with_entry}
use Rattle.trace_check.proofs.Numbers.{lent}
use Rattle.trace_check.proofs.RaisedOn.{many_by}
use Rattle.trace_check.proofs.leaving.Leaving.of.Goals as goal

pub returns : goal.returns
returns c all e =
    let f : Node → ℕ = last_of c.args.tree.now all in
    let last : c.in_ok-count.until.items ≡ by_node c.args.tree.now f = c.in_ok-count.ensures.last all e in
    let raised : c.raise.new.last ≡ by_node c.args.tree.now (greatest_in c.args.tree.now f) = c.raise.ensures f (c.deref_mut.ensures.value ∙ last) in
    let many : length c.raise.new.last ≡ c.in_ok-count.until.len =
    (let a = many_by c.args.tree.now f c.in_ok-count.until.items last in
    let b = many_by c.args.tree.now (greatest_in c.args.tree.now f) c.raise.new.last raised in
    let k = c.in_ok-count.until.ok.0 in
    omega (arith, a, b, k)) in
    let written : take c.in_ok-count.until.len (c.raise.new.last ++ drop (length c.raise.new.last) c.in_ok-count.until.items) ≡ c.raise.new.last =
    lent c.in_ok-count.until.items c.raise.new.last c.in_ok-count.until.len many in
    record {
      until_is = written ∙ raised;
      freed_is =
          c.in_ok-freed.ensures
          ∙ (ap (λ until. map (with_entry until) (count 0 (suc c.in_ok-count.count))) c.deref.ensures.value
          ∙ ap (λ (n : ℕ). map (with_entry (take c.in_ok-count.until.len (c.raise.new.last ++ drop (length c.raise.new.last) c.in_ok-count.until.items))) (count 0 (suc n)))
          (c.in_ok-count.ensures.count all e));
    }
