use Rattle.std.proofs.Common.{subst, sym, ◌≡◌, ◌+◌, List, ℕ, arith}
use Rattle.doc_chars.specs.Stream.{AreChars}
use Rattle.doc_machine.specs.Machine.{scan_state}
use Rattle.doc_parts.specs.Reading.{Moves}
use Rattle.doc_parts.proofs.Texts.{rest_all, moves_none}
use Rattle.doc_parts.proofs.Wholes.{moves_on}
use Rattle.doc_parts.proofs.whole.read_front.Goals as goal

pub loop-n-init : goal.loop-n-init
loop-n-init c = moves_none c.args.limits.now (scan_state c.args.m.now) c.args.text.now c.utf8.text

pub read_next-requires-clause-chars : goal.read_next-requires-clause-chars
read_next-requires-clause-chars c = subst AreChars (sym c.split_at.ensures.back) (rest_all c.args.text.now c.loop-n.at c.requires.chars c.loop-n.invariant.boundary)

pub returns-then-n-eq0-clause-moves : goal.returns-then-n-eq0-clause-moves
returns-then-n-eq0-clause-moves c =
    let lim = c.args.limits.now in
    let old = scan_state c.args.m.now in
    let now = scan_state c.loop-n.m in
    let new = scan_state c.read_next.new.m in
    let text = c.args.text.now in
    let at = c.loop-n.at in
    let n = c.in_ok-n.n in
    let same : at + n ≡ at = omega arith in
    let part = subst (λ (l : List ℕ). Moves lim now l n new) c.split_at.ensures.back c.in_ok-n.ensures.moves in
    subst (λ k. Moves lim old text k new) same (moves_on lim old now new text at n c.loop-n.invariant part)

pub loop-n-preserved : goal.loop-n-preserved
loop-n-preserved c =
    let lim = c.args.limits.now in
    let old = scan_state c.args.m.now in
    let now = scan_state c.loop-n.m in
    let new = scan_state c.read_next.new.m in
    let text = c.args.text.now in
    let at = c.loop-n.at in
    let n = c.in_ok-n.n in
    let part = subst (λ (l : List ℕ). Moves lim now l n new) c.split_at.ensures.back c.in_ok-n.ensures.moves in
    moves_on lim old now new text at n c.loop-n.invariant part
