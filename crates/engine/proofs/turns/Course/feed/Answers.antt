use Rattle.std.proofs.Common.{◌≡◌, ◌+◌, length, refl, sym, arith}
use Rattle.std.proofs.lemmas.List.{nil_from_length}
use Rattle.engine.specs.declared.turns.Course.{Course}
use Rattle.engine.proofs.TurnsFed.{feed_fits, feed_may, feeds, feeds_none}
use Rattle.engine.proofs.turns.Course.feed.Goals as goal

pub returns-in_default-clause-fed : goal.returns-in_default-clause-fed
returns-in_default-clause-fed g c = λ plan ts s h.
    let a = c.args.self.now in
    let d : Course g.row.N.Denot g.row.C.Denot = record { actors = a.actors; tokens = c.pop_front.new.self; fed = a.fed; acted = a.acted } in
    let none : a.tokens.len ≡ 0 = c.in_default.ensures.cases.0 in
    let few : length a.tokens.items ≡ 0 = omega arith in
    feeds_none g.C.Conds.stands plan ts s a h (nil_from_length a.tokens.items few) d refl (sym c.in_default.ensures.items)

pub feed-requires : goal.feed-requires
feed-requires g c = let m = c.requires in feed_may g.C.Conds.stands m.plan m.tokens m.state c.args.self.now m.of c.in-Some.token c.pop_front.new.self.items c.in-Some.ensures.items

pub overflow_add-self : goal.overflow_add-self
overflow_add-self g c = let m = c.requires in let l = feed_fits g.C.Conds.stands m.plan m.tokens m.state c.args.self.now m.of c.in-Some.token c.pop_front.new.self.items c.in-Some.ensures.items in omega arith

pub returns-clause-fed : goal.returns-clause-fed
returns-clause-fed g c = λ plan ts s h.
    let a = c.args.self.now in
    let d : Course g.row.N.Denot g.row.C.Denot = record { actors = c.feed.new.self; tokens = c.pop_front.new.self; fed = a.fed + 1; acted = a.acted } in
    feeds g.C.Conds.stands plan ts s a h c.in-Some.token c.pop_front.new.self.items c.in-Some.ensures.items d c.in_ok-feed.ensures refl refl refl
