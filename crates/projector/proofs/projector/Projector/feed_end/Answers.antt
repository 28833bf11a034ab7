use Rattle.std.proofs.Common.{◌≡◌, ℕ, refl, sym, ◌∙◌, ap, subst, Option}
use Rattle.std.specs.Prelude.{option_map}
use Rattle.node_store.specs.declared.store.Place.{Place}
use Rattle.node_store.specs.Rows.{parent_of}
use Rattle.gcx_model.specs.Tree.{End}
use Rattle.gcx_model.specs.Members.{In}
use Rattle.gcx_model.specs.Past.{Past}
use Rattle.buf_tree.specs.View.{View}
use Rattle.buf_tree.specs.Shape.{Cell, num}
use Rattle.buf_tree.specs.Calls.{Closed as ClosedAt}
use Rattle.buf_tree.specs.Stands.{StandsFor, past_told}
use Rattle.buf_tree.proofs.Feeding.{top_is}
use Rattle.buf_tree.proofs.KeptReading.{link_told, num_told, seen_stand_apart}
use Rattle.matcher.specs.View.{MatcherView}
use Rattle.projector.specs.declared.projector.Fed.TheVariants as outcomes
use Rattle.projector.specs.View.{ProjectorView}
use Rattle.projector.specs.Projector.{KeepsPlace, Places}
use Rattle.projector.specs.Calls.{Feeds}
use Rattle.projector.specs.Opening.{HasHeard}
use Rattle.projector.proofs.Pasts.{is_open}
use Rattle.projector.proofs.Places.{Up, has_innermost, up_from, up_place, serial_is}
use Rattle.projector.proofs.Feeding.{projects_end}
use Rattle.projector.proofs.projector.Projector.feed_end.Given.{Over}
use Rattle.projector.proofs.projector.Projector.feed_end.Goals as goal

pub innermost-here-requires-clause-place : goal.innermost-here-requires-clause-place
innermost-here-requires-clause-place g c = subst (λ (p : ProjectorView). Places p c.args.buffer.now) (sym c.self.view_is) c.requires.place

pub innermost-here-requires-clause-rows : goal.innermost-here-requires-clause-rows
innermost-here-requires-clause-rows g c =
    let m = c.requires.may in
    let a = is_open m.past.tree End m.may in
    has_innermost c.args.buffer.now m.past m.stands a.0 a.1

-- the parent's place, in any past for which the buffer stands
goes_up : (g : Over) (c : goal.After-go_up g) (past : Past) (h : StandsFor c.args.buffer.now past) → Up c.args.buffer.now past h (option_map (λ (p : Place). p.0) c.above-above.result)
goes_up g c past h =
    let i = c.innermost-here.ensures.innermost in
    subst (λ (o : Option ℕ). Up c.args.buffer.now past h o)
    (sym (c.above-above.ensures ∙ (ap (λ p. parent_of (g.N.NodeStore.rows c.innermost-here.result.store.now) p) (sym i.place) ∙ link_told _ c.args.buffer.now.kept c.args.buffer.now.rows c.innermost-here.ensures.store c.innermost-here.ensures.alike i.cell i.among)))
    (up_from c.args.buffer.now past h c.innermost-here.result.place.0 i)

-- the serial told is that of the innermost open row
told_is : (g : Over) (c : goal.After-go_up g) → c.serial-serial.result.0 ≡ num c.innermost-here.ensures.innermost.cell
told_is g c =
    let i = c.innermost-here.ensures.innermost in
    c.serial-serial.ensures
    ∙ sym (num_told _ c.args.buffer.now.kept c.args.buffer.now.rows c.innermost-here.ensures.store c.innermost-here.ensures.alike c.innermost-here.result.place.0 c.payload.result.now c.payload.ensures i.cell i.among i.place)

rows_apart : (g : Over) (c : goal.After-go_up g) → (a b : Cell) → In a c.args.buffer.now.rows → In b c.args.buffer.now.rows → a.place ≡ b.place → a ≡ b
rows_apart g c = seen_stand_apart _ c.args.buffer.now.kept c.args.buffer.now.rows c.innermost-here.ensures.store c.innermost-here.ensures.alike

pub returns-clause-feeds : goal.returns-clause-feeds
returns-clause-feeds g c =
    let m = c.requires.may in
    let i = c.innermost-here.ensures.innermost in
    subst (λ (z : MatcherView). Feeds (HasHeard z) (record { matcher = c.go_up.new.matcher; at = c.go_up.new.at; passed = c.self.inside.passed.items }) c.args.buffer.now c.close_node.new.self End (outcomes.Closed c.serial-serial.result))
    (ap (λ (p : ProjectorView). p.matcher) c.self.view_is)
    (record {
      stands = λ past h heard may. (
        projects_end (record { matcher = c.go_up.new.matcher; at = c.go_up.new.at; passed = c.self.inside.passed.items }) (ap (λ (p : ProjectorView). p.passed) c.self.view_is ∙ c.requires.none) c.self.inside.matcher c.args.buffer.now past h may c.above-above.result (goes_up g c past h) c.go_up.ensures.node c.go_up.ensures.document heard,
        c.close_node.ensures.stands (past_told past) (c.clear_waiting.ensures.stands past h) may,
      );
      place = (let s = c.close_node.ensures.stands (past_told m.past) (c.clear_waiting.ensures.stands m.past m.stands) m.may in
          subst (λ (o : Option Place). KeepsPlace o c.close_node.new.self.rows) (sym c.go_up.ensures.place)
          (up_place c.args.buffer.now c.clear_waiting.new.buffer c.close_node.new.self c.innermost-here.result.place.0 (ap (λ (v : View). v.rows) c.clear_waiting.ensures.cleared) c.close_node.ensures.closed m.past m.stands s c.above-above.result (goes_up g c m.past m.stands)));
      fed = λ past h heard may.
          let t = top_is c.args.buffer.now past c.innermost-here.result.place.0 h i in
          (t.0, refl, t.1, t.2 ∙ sym (told_is g c));
      changes = (
        refl,
        record {
          place = c.innermost-here.result.place.0;
          innermost = i;
          closed = subst (λ (v : View). ClosedAt v c.close_node.new.self c.innermost-here.result.place.0) c.clear_waiting.ensures.cleared c.close_node.ensures.closed;
          serial = told_is g c ∙ sym (serial_is c.args.buffer.now.rows (rows_apart g c) i.cell i.among c.innermost-here.result.place.0 i.place);
        },
      );
    })
