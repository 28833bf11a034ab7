use Rattle.std.proofs.Common.{ℕ, List, length, ap, sym, subst, ◌∙◌, ◌≡◌, ◌<◌, ◌≤◌, ◌∷◌, ◌++◌, [], take, drop, arith}
use Rattle.std.specs.Str.{IsUtf8}
use Rattle.std.proofs.lemmas.Str.{IsUtf8-drop}
use Rattle.gcx_base.specs.Name.{IsNameBytes}
use Rattle.doc_laws.specs.Machine.{StartSpace, opened, emptied, begun}
use Rattle.doc_machine.specs.Machine.{scan_state}
use Rattle.doc_parts.specs.Wholes.{named}
use Rattle.doc_parts.proofs.Fronts.{name_bytes}
use Rattle.doc_parts.proofs.Wholes.{first_boundary, start_front, open_moves, space_moves, empty_moves}
use Rattle.doc_parts.proofs.whole_tag.whole_start.Goals as goal

pub split_at-requires : goal.split_at-requires
split_at-requires c = first_boundary c.args.rest.now c.requires.less.0 60 (omega arith) c.utf8.rest c.requires.less.1

pub open_named-requires-clause-name : goal.open_named-requires-clause-name
open_named-requires-clause-name c =
    let rest = c.args.rest.now in
    let less = c.requires.less in
    let behind = c.split_at.result.1.now in
    let n = c.name_front-n.result in
    let utf8 : IsUtf8 behind = subst IsUtf8 (sym c.split_at.ensures.back) (IsUtf8-drop rest 1 c.utf8.rest (first_boundary rest less.0 60 (omega arith) c.utf8.rest less.1)) in
    let some : 0 < n = omega arith in
    subst (λ (l : List ℕ). IsNameBytes (take n l)) (sym c.as_bytes-bytes.ensures.value) (name_bytes behind n utf8 some c.name_front-n.ensures)

pub open_named-requires-clause-within : goal.open_named-requires-clause-within
open_named-requires-clause-within c =
    subst (λ (l : List ℕ). c.name_front-n.result ≤ length l) (sym c.as_bytes-bytes.ensures.value) c.name_front-n.ensures.boundary.0

pub returns-in_ok-open_named-clause-moves : goal.returns-in_ok-open_named-clause-moves
returns-in_ok-open_named-clause-moves c =
    let s = scan_state c.args.m.now in
    let rest = c.args.rest.now in
    let less = c.requires.less in
    let behind = c.split_at.result.1.now in
    let n = c.name_front-n.result in
    let behind_is : behind ≡ less.0 = c.split_at.ensures.back ∙ ap (drop 1) less.1 in
    let utf8 : IsUtf8 behind = subst IsUtf8 (sym c.split_at.ensures.back) (IsUtf8-drop rest 1 c.utf8.rest (first_boundary rest less.0 60 (omega arith) c.utf8.rest less.1)) in
    let some : 0 < n = omega arith in
    let name_is : take n c.as_bytes-bytes.result.now ≡ take n behind = ap (λ (l : List ℕ). take n l) c.as_bytes-bytes.ensures.value in
    let found = c.begins.ensures c.if-begins.true in
    let tail : drop n behind ≡ (62 ∷ []) ++ found.0 = sym (c.as_bytes-after.ensures.value ∙ c.split_at-2.ensures.back) ∙ found.1 in
    let front = start_front rest behind ((62 ∷ [])) found.0 n (less.1 ∙ ap (λ l. 60 ∷ l) (sym behind_is)) utf8 some c.name_front-n.ensures tail in
    open_moves c.args.limits.now s (scan_state c.open_named.new.m) rest n (take n behind) found.0 c.requires.between front (omega arith) (omega (arith, c.len.ensures)) (c.in_ok-open_named.ensures ∙ ap (λ m. opened (begun (named s m))) name_is)

pub begin_named-requires : goal.begin_named-requires
begin_named-requires c =
    let s = scan_state c.args.m.now in
    let rest = c.args.rest.now in
    let less = c.requires.less in
    let behind = c.split_at.result.1.now in
    let n = c.name_front-n.result in
    let behind_is : behind ≡ less.0 = c.split_at.ensures.back ∙ ap (drop 1) less.1 in
    let utf8 : IsUtf8 behind = subst IsUtf8 (sym c.split_at.ensures.back) (IsUtf8-drop rest 1 c.utf8.rest (first_boundary rest less.0 60 (omega arith) c.utf8.rest less.1)) in
    let some : 0 < n = omega arith in
    let name_is : c.as_bytes-name.result.now ≡ take n behind = c.as_bytes-name.ensures.value ∙ c.split_at-2.ensures.front in
    subst IsNameBytes (sym name_is) (name_bytes behind n utf8 some c.name_front-n.ensures)

pub returns-in_ok-begin_named-clause-moves : goal.returns-in_ok-begin_named-clause-moves
returns-in_ok-begin_named-clause-moves c =
    let s = scan_state c.args.m.now in
    let rest = c.args.rest.now in
    let less = c.requires.less in
    let behind = c.split_at.result.1.now in
    let n = c.name_front-n.result in
    let behind_is : behind ≡ less.0 = c.split_at.ensures.back ∙ ap (drop 1) less.1 in
    let utf8 : IsUtf8 behind = subst IsUtf8 (sym c.split_at.ensures.back) (IsUtf8-drop rest 1 c.utf8.rest (first_boundary rest less.0 60 (omega arith) c.utf8.rest less.1)) in
    let some : 0 < n = omega arith in
    let name_is : c.as_bytes-name.result.now ≡ take n behind = c.as_bytes-name.ensures.value ∙ c.split_at-2.ensures.front in
    let found = c.begins-else-begins.ensures c.if-begins-2.true in
    let tail : drop n behind ≡ (32 ∷ []) ++ found.0 = sym (c.as_bytes-after.ensures.value ∙ c.split_at-2.ensures.back) ∙ found.1 in
    let front = start_front rest behind ((32 ∷ [])) found.0 n (less.1 ∙ ap (λ l. 60 ∷ l) (sym behind_is)) utf8 some c.name_front-n.ensures tail in
    space_moves c.args.limits.now s (scan_state c.begin_named.new.m) rest n (take n behind) found.0 c.requires.between front (omega arith) (omega (arith, c.len.ensures)) (c.in_ok-begin_named.ensures ∙ ap (λ m. record (begun (named s m)) { mode = StartSpace }) name_is)

pub empty_named-requires : goal.empty_named-requires
empty_named-requires c =
    let s = scan_state c.args.m.now in
    let rest = c.args.rest.now in
    let less = c.requires.less in
    let behind = c.split_at.result.1.now in
    let n = c.name_front-n.result in
    let behind_is : behind ≡ less.0 = c.split_at.ensures.back ∙ ap (drop 1) less.1 in
    let utf8 : IsUtf8 behind = subst IsUtf8 (sym c.split_at.ensures.back) (IsUtf8-drop rest 1 c.utf8.rest (first_boundary rest less.0 60 (omega arith) c.utf8.rest less.1)) in
    let some : 0 < n = omega arith in
    let name_is : c.as_bytes-name.result.now ≡ take n behind = c.as_bytes-name.ensures.value ∙ c.split_at-2.ensures.front in
    subst IsNameBytes (sym name_is) (name_bytes behind n utf8 some c.name_front-n.ensures)

pub returns-in_ok-empty_named-clause-moves : goal.returns-in_ok-empty_named-clause-moves
returns-in_ok-empty_named-clause-moves c =
    let s = scan_state c.args.m.now in
    let rest = c.args.rest.now in
    let less = c.requires.less in
    let behind = c.split_at.result.1.now in
    let n = c.name_front-n.result in
    let behind_is : behind ≡ less.0 = c.split_at.ensures.back ∙ ap (drop 1) less.1 in
    let utf8 : IsUtf8 behind = subst IsUtf8 (sym c.split_at.ensures.back) (IsUtf8-drop rest 1 c.utf8.rest (first_boundary rest less.0 60 (omega arith) c.utf8.rest less.1)) in
    let some : 0 < n = omega arith in
    let name_is : c.as_bytes-name.result.now ≡ take n behind = c.as_bytes-name.ensures.value ∙ c.split_at-2.ensures.front in
    let found = c.begins-else-begins-2.ensures c.if-begins-3.true in
    let tail : drop n behind ≡ (47 ∷ (62 ∷ [])) ++ found.0 = sym (c.as_bytes-after.ensures.value ∙ c.split_at-2.ensures.back) ∙ found.1 in
    let front = start_front rest behind ((47 ∷ (62 ∷ []))) found.0 n (less.1 ∙ ap (λ l. 60 ∷ l) (sym behind_is)) utf8 some c.name_front-n.ensures tail in
    empty_moves c.args.limits.now s (scan_state c.empty_named.new.m) rest n (take n behind) found.0 c.requires.between front (omega arith) (omega (arith, c.len.ensures)) (c.in_ok-empty_named.ensures ∙ ap (λ m. emptied (begun (named s m))) name_is)
