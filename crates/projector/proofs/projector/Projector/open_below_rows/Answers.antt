use Rattle.std.proofs.Common.{◌∙◌, [], ap, arith, refl, subst, sym}
use Rattle.std.specs.Prelude.{IfSome}
use Rattle.gcx_model.specs.Past.{token_for}
use Rattle.matcher.specs.Calls.{GivesCount, StandsBehind}
use Rattle.matcher.specs.View.{MatcherView}
use Rattle.buf_tree.specs.View.{View}
use Rattle.buf_tree.proofs.KeptReading.{seen_stand_apart}
use Rattle.projector.specs.declared.projector.Fed.TheVariants as outcomes
use Rattle.projector.specs.declared.projector.Tally.TheVariants as tallies
use Rattle.projector.specs.Late.{MakesSome, passed_in}
use Rattle.projector.specs.Projector.{KeepsPlace}
use Rattle.projector.specs.View.{ProjectorView}
use Rattle.projector.proofs.Entered.{entered_behind, entered_gives, enters_by, opens_below}
use Rattle.projector.proofs.Feeding.{node_feeds}
use Rattle.projector.proofs.Loosely.{made_stands}
use Rattle.projector.proofs.LateRows.{err_holds, made_shallow, makes_all}
use Rattle.projector.proofs.Pasts.{is_open}
use Rattle.projector.proofs.Places.{has_innermost, level_is}
use Rattle.projector.proofs.projector.Projector.open_below_rows.Goals as goal

pub make_all-requires-clause-names : goal.make_all-requires-clause-names
make_all-requires-clause-names g c = c.requires.may.names

pub make_all-requires-clause-stands : goal.make_all-requires-clause-stands
make_all-requires-clause-stands g c = (c.requires.may.past, c.requires.may.buffer)

-- ---- behind the rows

pub innermost-requires-clause-place : goal.innermost-requires-clause-place
innermost-requires-clause-place g c = subst (λ (p : ProjectorView). KeepsPlace p.at c.make_all.new.buffer.rows) (sym c.self.view_is) c.in_ok-make_all.ensures.place

pub innermost-requires-clause-rows : goal.innermost-requires-clause-rows
innermost-requires-clause-rows g c =
    let m = c.requires.may in
    let a = is_open m.past.tree (token_for c.args.kind) m.may in
    has_innermost c.make_all.new.buffer m.past (made_stands (passed_in c.args.bytes.now c.args.self.now.passed) c.args.buffer.now c.make_all.new.buffer c.in_ok-make_all.ensures.makes c.requires.may.past c.requires.may.buffer) a.0 a.1

pub open_entered-requires-clause-plain : goal.open_entered-requires-clause-plain
open_entered-requires-clause-plain g c =
    subst (λ (n : MatcherView). IfSome c.args.plain (GivesCount n)) (sym (ap (λ (p : ProjectorView). p.matcher) c.self.view_is ∙ c.in_ok-make_all.ensures.matcher)) c.requires.plain

pub open_entered-requires-clause-nodes : goal.open_entered-requires-clause-nodes
open_entered-requires-clause-nodes g c = let n = c.in_ok-make_all.ensures.makes.rows.nodes in let m = c.requires.nodes in omega arith

pub open_entered-requires-clause-depth : goal.open_entered-requires-clause-depth
open_entered-requires-clause-depth g c =
    level_is c.make_all.new.buffer.rows (seen_stand_apart _ c.make_all.new.buffer.kept c.make_all.new.buffer.rows c.innermost.ensures.store c.innermost.ensures.alike) c.innermost.result.place.0 c.innermost.ensures.innermost (made_shallow (passed_in c.args.bytes.now c.args.self.now.passed) c.args.buffer.now c.make_all.new.buffer c.in_ok-make_all.ensures.makes.rows c.requires.depth)

pub open_entered-requires-clause-may : goal.open_entered-requires-clause-may
open_entered-requires-clause-may g c =
    let m = c.requires.may in
    entered_behind m.before c.self.inside.matcher c.make_all.new.buffer c.args.kind (enters_by m.before c.self.inside.matcher c.args.kind (subst (λ (n : MatcherView). StandsBehind m.before n c.args.kind) (sym (ap (λ (p : ProjectorView). p.matcher) c.self.view_is ∙ c.in_ok-make_all.ensures.matcher)) m.behind)) (made_shallow (passed_in c.args.bytes.now c.args.self.now.passed) c.args.buffer.now c.make_all.new.buffer c.in_ok-make_all.ensures.makes.rows c.requires.depth)
    (record { past = m.past; stands = made_stands (passed_in c.args.bytes.now c.args.self.now.passed) c.args.buffer.now c.make_all.new.buffer c.in_ok-make_all.ensures.makes c.requires.may.past c.requires.may.buffer; projects = m.heard; may = m.may })

pub returns-in_err-place-clause-err : goal.returns-in_err-place-clause-err
returns-in_err-place-clause-err g c =
    err_holds c.from_residual-in_err-place.result
    (subst (λ (w : View). MakesSome (passed_in c.args.bytes.now c.args.self.now.passed) c.args.buffer.now w) (sym c.in_err-place.ensures.err)
    (makes_all (passed_in c.args.bytes.now c.args.self.now.passed) c.args.buffer.now c.make_all.new.buffer c.in_ok-make_all.ensures.makes))

pub returns-in_err-make_all-clause-taken : goal.returns-in_err-make_all-clause-taken
returns-in_err-make_all-clause-taken g c = let t = c.in_err-make_all.ensures.err.makes.rows.taken in omega arith

pub returns-in_err-place-clause-taken : goal.returns-in_err-place-clause-taken
returns-in_err-place-clause-taken g c =
    let t = c.in_ok-make_all.ensures.makes.rows.taken in
    let e = c.open_entered.ensures.taken in
    omega arith

pub returns-clause-taken : goal.returns-clause-taken
returns-clause-taken g c =
    let t = c.in_ok-make_all.ensures.makes.rows.taken in
    let e = c.open_entered.ensures.taken in
    let w = ap (λ (v : View). v.taken) c.clear_waiting.ensures.cleared in
    omega arith

pub returns-clause-opens : goal.returns-clause-opens
returns-clause-opens g c before came =
    let o = c.in_ok-place.ensures.opens in
    let between = c.make_all.new.buffer in
    let n = c.self.inside.matcher in
    let enters = enters_by before n c.args.kind (subst (λ (n : MatcherView). StandsBehind before n c.args.kind) (sym (ap (λ (p : ProjectorView). p.matcher) c.self.view_is ∙ c.in_ok-make_all.ensures.matcher)) came) in
    let kept : KeepsPlace c.self.inside.at between.rows = subst (λ (p : ProjectorView). KeepsPlace p.at between.rows) (sym c.self.view_is) c.in_ok-make_all.ensures.place in
    record {
      at = c.self.inside.at;
      between = between;
      makes = c.in_ok-make_all.ensures.makes;
      place = kept;
      feeds = record {
        fed = outcomes.Opened (record { 0 = between.nodes }) o.given;
        feeds = node_feeds (record { matcher = before; at = c.self.inside.at; passed = [] }) (record { matcher = c.go_to.new.matcher; at = c.go_to.new.at; passed = c.self.inside.passed.items }) n between c.clear_waiting.new.buffer c.innermost.result.place.0
            c.innermost.ensures.innermost c.args.kind c.requires.kind c.in_ok-place.place o.given
            (opens_below before n between c.args.kind c.requires.kind o.given o.ahead enters (entered_gives before n c.args.kind c.requires.kind o.given enters o.here) o.taken (made_shallow (passed_in c.args.bytes.now c.args.self.now.passed) c.args.buffer.now c.make_all.new.buffer c.in_ok-make_all.ensures.makes.rows c.requires.depth) c.open_entered.new.buffer c.clear_waiting.new.buffer c.innermost.result.place.0 c.in_ok-place.place
            o.opened o.stands c.clear_waiting.ensures.cleared c.clear_waiting.ensures.stands)
            c.requires.may.past (made_stands (passed_in c.args.bytes.now c.args.self.now.passed) c.args.buffer.now c.make_all.new.buffer c.in_ok-make_all.ensures.makes c.requires.may.past c.requires.may.buffer) (made_shallow (passed_in c.args.bytes.now c.args.self.now.passed) c.args.buffer.now c.make_all.new.buffer c.in_ok-make_all.ensures.makes.rows c.requires.depth) kept (ap (λ (p : ProjectorView). p.passed) c.self.view_is ∙ c.in_ok-make_all.ensures.none)
            (λ e. c.go_to.ensures.text (c.is_text-text.ensures ∙ e)) (λ e. c.go_to.ensures.element (c.is_text-text.ensures ∙ e)) (λ e. c.go_to.ensures.text_place (c.is_text-text.ensures ∙ e)) (λ e. c.go_to.ensures.element_place (c.is_text-text.ensures ∙ e))
            (record { 0 = between.nodes }) refl;
        is = sym (ap tallies.Opened o.many);
      };
    }
