use Rattle.std.proofs.Common.{rules, ap, sym, subst, ◌∙◌, ◌≡◌, ◌<◌, ◌∷◌, ◌++◌, [], take, drop, arith, true}
use Rattle.std.proofs.lemmas.List.{take-append-drop}
use Rattle.std.proofs.lemmas.Str.{IsUtf8-take}
use Rattle.std.proofs.lemmas.Bool.{not-false}
use Rattle.gcx_model.specs.Attributes.{is_fresh}
use Rattle.doc_laws.specs.Machine.{MachineMode, InValue}
use Rattle.doc_machine.specs.Machine.{scan_state, quote_of}
use Rattle.doc_machine.specs.Sound.{IsSoundIn}
use Rattle.doc_parts.proofs.Texts.{moves_none}
use Rattle.doc_parts.proofs.Wholes.{name_length, attribute_moves}
use Rattle.doc_parts.proofs.whole_tag.whole_attribute.Goals as goal

pub returns-then-n-eq0-clause-moves : goal.returns-then-n-eq0-clause-moves
returns-then-n-eq0-clause-moves c = moves_none c.args.limits.now (scan_state c.args.m.now) c.args.rest.now c.utf8.rest

pub returns-in_default-clause-moves : goal.returns-in_default-clause-moves
returns-in_default-clause-moves c = moves_none c.args.limits.now (scan_state c.args.m.now) c.args.rest.now c.utf8.rest

pub returns-then-has-clause-moves : goal.returns-then-has-clause-moves
returns-then-has-clause-moves c = moves_none c.args.limits.now (scan_state c.args.m.now) c.args.rest.now c.utf8.rest

pub returns-clause-moves : goal.returns-clause-moves
returns-clause-moves c =
    let s = scan_state c.args.m.now in
    let rest = c.args.rest.now in
    let n = c.name_front-n.result in
    let q = c.in-Some.quote in
    let name = take n rest in
    let found = c.in-Some.ensures in
    let some : 0 < n = omega arith in
    let boundary = c.name_front-n.ensures.boundary in
    let run : s.run ≡ [] = subst (λ (m : MachineMode). IsSoundIn m s) c.requires.mode c.requires.sound in
    let name_is : c.as_bytes-name.result.now ≡ name = c.as_bytes-name.ensures.value ∙ c.split_at.ensures.front in
    let tail : drop n rest ≡ 61 ∷ (quote_of q ∷ found.0) = sym (c.as_bytes.ensures.value ∙ c.split_at.ensures.back) ∙ found.1 in
    let parts : rest ≡ name ++ (61 ∷ (quote_of q ∷ found.0)) = sym (take-append-drop n rest) ∙ ap (λ l. name ++ l) tail in
    let fresh : is_fresh name s.attrs ≡ true = ap (λ m. is_fresh m s.attrs) (sym name_is) ∙ not-false (is_fresh c.as_bytes-name.result.now s.attrs) (sym c.has.ensures ∙ c.if-has.false) in
    let attr : c.extend_from_slice.new.self.items ≡ name = search (rules, name_is) in
    attribute_moves c.args.limits.now s (record s { mode = InValue (quote_of q); attr = c.extend_from_slice.new.self.items }) rest name found.0 n q c.requires.chars c.requires.mode run parts (name_length rest n boundary)
    (IsUtf8-take rest n c.utf8.rest boundary) (c.name_front-n.ensures.name some) (omega arith) (omega (arith, c.len.ensures)) fresh (ap (λ a. record s { mode = InValue (quote_of q); attr = a }) attr)
