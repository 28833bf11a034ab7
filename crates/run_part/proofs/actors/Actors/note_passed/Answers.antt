use Rattle.std.proofs.Common.{refl, subst, sym}
use Rattle.std.specs.Prelude.{OnOk}
use Rattle.doc_reader.specs.Standing.{Lent, lent_token}
use Rattle.run_part.specs.Late.{CountsPassed}
use Rattle.run_part.proofs.Results.{ok_map}
use Rattle.run_part.proofs.actors.Actors.note_passed.Goals as goal

pub note_element-requires-clause-some : goal.note_element-requires-clause-some
note_element-requires-clause-some g c = c.requires.some

pub note_element-requires-clause-few : goal.note_element-requires-clause-few
note_element-requires-clause-few g c = c.requires.few

pub returns-in-Start-clause-counts : goal.returns-in-Start-clause-counts
returns-in-Start-clause-counts g c =
    subst (λ (x : Lent). OnOk c.note_element.result (CountsPassed c.args.bytes.now g.C.Conds.stands c.args.self.now c.note_element.new.self (lent_token c.args.bytes.now x))) (sym c.in-Start.is)
    (ok_map c.note_element.result (λ over. (over, c.note_element.ensures.counts)) c.note_element.ensures.settles)

pub returns-in-Text-clause-counts : goal.returns-in-Text-clause-counts
returns-in-Text-clause-counts g c =
    subst (λ (x : Lent). CountsPassed c.args.bytes.now g.C.Conds.stands c.args.self.now c.args.self.now (lent_token c.args.bytes.now x)) (sym c.in-Text.is) refl

pub returns-in-End-clause-counts : goal.returns-in-End-clause-counts
returns-in-End-clause-counts g c =
    subst (λ (x : Lent). CountsPassed c.args.bytes.now g.C.Conds.stands c.args.self.now c.args.self.now (lent_token c.args.bytes.now x)) (sym c.in-End.is) refl
