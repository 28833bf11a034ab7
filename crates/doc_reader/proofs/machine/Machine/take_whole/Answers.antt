use Rattle.std.proofs.Common.{◌≤◌, length, drop, sym, ap, ◌∙◌, subst}
use Rattle.doc_laws.specs.Machine.{State}
use Rattle.doc_tokens.specs.Tokens.{Queue}
use Rattle.doc_machine.specs.Machine.{scan_state}
use Rattle.doc_reader.proofs.machine.Machine.take_whole.Goals as goal

pub take-requires : goal.take-requires
take-requires c = subst (λ (s : State). c.args.count ≤ length s.tokens) (sym c.self.view_is) c.requires

pub returns : goal.returns
returns c =
    let s = scan_state c.self.inside.scan in
    ap (λ (q : Queue). record s { run = q.run; pending = q.pending; tokens = q.tokens }) c.take.ensures
    ∙ ap (λ (t : State). record t { tokens = drop c.args.count t.tokens }) c.self.view_is
