use Rattle.std.proofs.Common.{◌≡◌, ℕ, List, None, false, map, slice_get, sym, ◌∙◌, ap}
use Rattle.gcx_model.specs.Paths.{matches}
use Rattle.gcx_model.specs.Tree.{Node, serial_of}
use Rattle.doc_tree.specs.Rows.{node_at}
use Rattle.time_laws.specs.Times.{Clock, SettledTruth}
use Rattle.trace_check.specs.Timing.{clock_in}
use Rattle.trace_check.proofs.Numbers.{number_of}
use Rattle.trace_check.proofs.Settles.{exists_none}
use Rattle.trace_check.proofs.conditions.exists.Goals as goal

pub returns : goal.returns
returns c =
    let C = c.args.timed.now.tree in
    let clock : Clock = clock_in c.args.timed.now in
    let from : ℕ = serial_of (node_at C.nodes c.args.node) in
    let found : List Node = matches C from c.args.steps.now in
    let none : slice_get (map serial_of found) 0 ≡ None
    = sym (ap (λ (l : List ℕ). slice_get l 0) (c.deref.ensures.value ∙ c.in_ok-found.ensures.numbers)) ∙ sym c.in-None.ensures.value in
    let over : c.closed_at.result ≡ clock.closed from = c.closed_at.ensures ∙ ap clock.closed (sym (number_of C c.requires.grown c.args.node c.requires.there)) in
    ap (λ (x : ℕ). let s : SettledTruth = record { at = x; truth = false } in s) over ∙ sym (exists_none clock found (clock.closed from) none)
