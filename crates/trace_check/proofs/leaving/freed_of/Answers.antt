use Rattle.std.proofs.Common.{◌≡◌, ℕ, suc, ◌-◌, ◌<◌, ◌≤◌, List, [], ◌∷◌, ◌++◌, length, map, get_or, set, inl, inr, refl, sym, ◌∙◌, ap, arith}
use Rattle.std.specs.Global.{Vec}
use Rattle.std.proofs.lemmas.Bool.{cases_lt, false≢true}
use Rattle.std.proofs.lemmas.List.{get_or-map, map-set}
use Rattle.gcx_model.specs.Members.{count}
use Rattle.trace_check.specs.Wanting.{lists_in}
use Rattle.trace_check.proofs.Freed.{entries_from, lists_all, lists_many, lists_more, lists_none, lists_same}
use Rattle.trace_check.proofs.leaving.freed_of.Goals as goal

pub loop-node-init : goal.loop-node-init
loop-node-init c = record {
  freed = c.in_ok-freed.ensures ∙ lists_none c.args.until.now 0 (suc c.args.count);
  within = omega arith;
}

pub loop-node-preserved-in-Continue-branch-2 : goal.loop-node-preserved-in-Continue-branch-2
loop-node-preserved-in-Continue-branch-2 c =
    let j : ℕ = c.loop-node.node - 1 in
    let u : ℕ = get_or c.args.until.now j 0 in
    let some : c.loop-node.node ≡ suc j = (let t = c.loop-node-test.true in omega (arith, t)) in
    let l : j < length c.args.until.now = (let w = c.loop-node.invariant.within in omega (arith, some, w)) in
    let lists : List (List ℕ) = lists_in c.loop-node.freed.items in
    let many = lists_many c.loop-node.freed.items (entries_from c.args.until.now c.loop-node.node) (suc c.args.count) c.loop-node.invariant.freed in
    let there : u < length c.loop-node.freed.items = (let v = c.in-Some.ensures.variant.0 refl in omega (arith, v)) in
    let pushed : c.push.new.self.items ≡ get_or lists u c.in-Some.nodes.now.items ++ j ∷ [] =
    c.in_ok-push.ensures.items
    ∙ ap (λ (x : List ℕ). x ++ j ∷ []) (ap (λ (v : Vec ℕ). v.items) c.in-Some.ensures.value ∙ sym (get_or-map (λ (v : Vec ℕ). v.items) c.loop-node.freed.items u c.in-Some.nodes.now c.in-Some.nodes.now.items there)) in
    record {
      freed =
          map-set (λ (v : Vec ℕ). v.items) c.loop-node.freed.items u c.push.new.self
          ∙ (ap (set lists u) pushed
          ∙ lists_more c.args.until.now j (suc c.args.count) lists c.in-Some.nodes.now.items l (omega (arith, there, many))
          (c.loop-node.invariant.freed ∙ ap (λ k. map (entries_from c.args.until.now k) (count 0 (suc c.args.count))) some));
      within = omega (arith, l);
    }

pub loop-node-preserved : goal.loop-node-preserved
loop-node-preserved c =
    let j : ℕ = c.loop-node.node - 1 in
    let some : c.loop-node.node ≡ suc j = (let t = c.loop-node-test.true in omega (arith, t)) in
    let l : j < length c.args.until.now = (let w = c.loop-node.invariant.within in omega (arith, some, w)) in
    let many = lists_many c.loop-node.freed.items (entries_from c.args.until.now c.loop-node.node) (suc c.args.count) c.loop-node.invariant.freed in
    let past : suc c.args.count ≤ get_or c.args.until.now j 0 = elim (cases_lt (get_or c.args.until.now j 0) (suc c.args.count)) [
      | inl there ↦ absurd (false≢true (c.in_default.ensures.variant.1 (omega (arith, there, many))))
      | inr g ↦ g
    ] in
    record {
      freed = c.loop-node.invariant.freed ∙ (ap (λ k. map (entries_from c.args.until.now k) (count 0 (suc c.args.count))) some ∙ lists_same c.args.until.now j (suc c.args.count) l past);
      within = omega (arith, l);
    }

pub returns : goal.returns
returns c =
    c.loop-node.invariant.freed
    ∙ (ap (λ k. map (entries_from c.args.until.now k) (count 0 (suc c.args.count))) (let f = c.loop-node-test.false in omega (arith, f)) ∙ lists_all c.args.until.now (suc c.args.count))
