use Rattle.std.proofs.Common.{refl, ap, subst, take, drop, List, ℕ, ◌≡◌, ◌+◌, ◌-◌, length, arith}
use Rattle.doc_laws.specs.Machine.{EndName, innermost}
use Rattle.doc_machine.specs.Machine.{scan_state, mode_of}
use Rattle.doc_parts.specs.Spans.{IsSameFront}
use Rattle.doc_parts.proofs.Spans.{tail_is, end_moves}
use Rattle.doc_parts.proofs.Texts.{moves_none}
use Rattle.doc_parts.proofs.whole.match_name.Goals as goal

pub returns-then-i-name : goal.returns-then-i-name
returns-then-i-name c = moves_none c.args.limits.now (scan_state c.args.m.now) c.args.rest.now c.utf8.rest

pub returns : goal.returns
returns c =
    let s = scan_state c.args.m.now in
    let i = c.args.i in
    let n = c.same_front-n.result in
    let name = innermost s.names in
    let mode : s.mode ≡ EndName (drop i name) = ap (mode_of s.names) c.requires.mode in
    let found = c.innermost-name.result.now in
    let tail = tail_is found i (omega arith) in
    let same = subst (λ (l : List ℕ). IsSameFront n (take (length found - i) (drop i found)) l) c.as_bytes.ensures.value c.same_front-n.ensures in
    let front = subst (λ (l : List ℕ). IsSameFront n (drop i l) c.args.rest.now) c.innermost-name.ensures (subst (λ (l : List ℕ). IsSameFront n l c.args.rest.now) tail same) in
    end_moves c.args.limits.now s (record s { mode = EndName (drop (i + n) name) }) name c.args.rest.now i n c.utf8.rest c.requires.run mode front refl
