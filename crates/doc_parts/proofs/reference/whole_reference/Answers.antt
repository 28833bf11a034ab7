use Rattle.std.proofs.Common.{ap, sym, ◌∙◌, ◌≡◌, ◌++◌, arith}
use Rattle.std.specs.Char.{encode_utf8}
use Rattle.doc_laws.specs.Machine.{State}
use Rattle.doc_tokens.specs.Tokens.{Queue}
use Rattle.doc_machine.specs.Machine.{scan_state}
use Rattle.doc_parts.specs.Wholes.{character_of}
use Rattle.doc_parts.proofs.Texts.{moves_none}
use Rattle.doc_parts.proofs.Wholes.{reference_moves}
use Rattle.doc_parts.proofs.reference.whole_reference.Goals as goal

pub returns-then-run_len-limits-clause-moves : goal.returns-then-run_len-limits-clause-moves
returns-then-run_len-limits-clause-moves c = moves_none c.args.limits.now (scan_state c.args.m.now) c.args.rest.now c.utf8.rest

pub returns-in-None-clause-moves : goal.returns-in-None-clause-moves
returns-in-None-clause-moves c = moves_none c.args.limits.now (scan_state c.args.m.now) c.args.rest.now c.utf8.rest

pub returns-in_ok-push-in-Some-clause-moves : goal.returns-in_ok-push-in-Some-clause-moves
returns-in_ok-push-in-Some-clause-moves c =
    let s = scan_state c.args.m.now in
    let e = c.in-Some.entity in
    let front = c.in-Some.ensures in
    let text = c.args.m.now.tokens in
    let with_tokens : Queue → State = λ q. record s { run = q.run; pending = q.pending; tokens = q.tokens } in
    let run : with_tokens c.push.new.self ≡ record s { run = s.run ++ encode_utf8 (character_of e) } =
    ap with_tokens (c.in_ok-push-in-Some.ensures.ok ∙ ap (λ d. record text { run = text.run ++ encode_utf8 d }) c.character.ensures) in
    reference_moves c.args.limits.now s (with_tokens c.push.new.self) c.args.rest.now front.0 e c.size.result c.utf8.rest c.requires (omega (arith, c.run_len.ensures)) (sym c.as_bytes.ensures.value ∙ front.1) c.size.ensures run
