use Rattle.std.proofs.Common.{◌≡◌, ℕ, ◌+◌, ◌<◌, ◌≤◌, Bool, List, leb, length, get_or, map, sym, ap, subst, arith}
use Rattle.std.specs.List.{filter}
use Rattle.std.specs.Global.{Vec}
use Rattle.std.proofs.lemmas.Bool.{le-leb, lt-leb}
use Rattle.gcx_model.specs.Demand.{Left}
use Rattle.trace_check.specs.Telling.{Puts}
use Rattle.trace_check.specs.Timing.{clock_in}
use Rattle.trace_check.proofs.Putting.{freed_put, freed_there, list_told}
use Rattle.trace_check.proofs.Told.{left_among, left_more, left_same}
use Rattle.trace_check.proofs.telling.put_freed.Goals as goal
use Rattle.trace_check.proofs.telling.put_freed.Goals.{then-closed_at-now+in_ok-put_gone, else-closed_at-now}

pub loop-node-preserved : goal.loop-node-preserved
loop-node-preserved c =
    let old : List ℕ = c.args.text.now.items in
    let closed : ℕ → ℕ = (clock_in c.args.course.now.timed).closed in
    let p : ℕ → Bool = λ n. leb (closed n) c.args.now in
    let xs : List ℕ = c.deref-node-items.result.now in
    let i : ℕ = c.loop-node.node-index in
    let at : c.closed_at.result ≡ closed (get_or xs i 0) = c.closed_at.ensures in
    elim c.if-closed_at-now.branch [
      | then-closed_at-now+in_ok-put_gone w ↦
          (let by : closed (get_or xs i 0) ≤ c.args.now = (let t = w.if-closed_at-now.true in omega (arith, t, at)) in
          subst (λ (t : List ℕ). Puts old t (left_among p xs (i + 1))) (sym (ap (λ v. v.items) w.text-is))
          (left_more p xs i 0 old c.loop-node.text.items w.put_gone.new.text.items c.loop-node-test.true (le-leb (closed (get_or xs i 0)) c.args.now by) c.loop-node.invariant w.in_ok-put_gone.ensures))
      | else-closed_at-now w ↦
          (let later : c.args.now < closed (get_or xs i 0) = (let t = w.if-closed_at-now.false in omega (arith, t, at)) in
          subst (λ (t : List ℕ). Puts old t (left_among p xs (i + 1))) (sym (ap (λ v. v.items) w.text-is))
          (left_same p xs i 0 old c.loop-node.text.items c.loop-node-test.true (lt-leb (closed (get_or xs i 0)) c.args.now later) c.loop-node.invariant))
    ]

pub returns-after-loop-node : goal.returns-after-loop-node
returns-after-loop-node c plan ts is few =
    let old : List ℕ = c.args.text.now.items in
    let new : List ℕ = c.loop-node.text.items in
    let p : ℕ → Bool = λ n. leb ((clock_in c.args.course.now.timed).closed n) c.args.now in
    let l : Vec ℕ = c.in-Some.nodes.now in
    let lists = c.deref.ensures.value in
    let found = c.in-Some.ensures.lookup in
    let end : length c.deref-node-items.result.now ≤ c.loop-node.node-index = (let t = c.loop-node-test.false in omega (arith, t)) in
    let told : Puts old new (map Left (filter p l.items))
    = subst (λ (xs : List ℕ). Puts old new (map Left (filter p xs))) c.deref-node-items.ensures.value (list_told p c.deref-node-items.result.now c.loop-node.node-index old new end c.loop-node.invariant) in
    freed_put plan ts c.args.course.now is c.args.now c.args.number few l
    (subst (λ (ls : List (Vec ℕ)). c.args.number < length ls) lists found.3.0) (subst (λ (ls : List (Vec ℕ)). l ≡ get_or ls c.args.number l) lists found.1) old new told

pub returns-in_default : goal.returns-in_default
returns-in_default c plan ts is few =
    let there = freed_there plan ts c.args.course.now is c.args.number few in
    let past = c.in_default.ensures.lookup.3 in
    let many = ap length c.deref.ensures.value in
    absurd (omega (arith, there, past, many))
