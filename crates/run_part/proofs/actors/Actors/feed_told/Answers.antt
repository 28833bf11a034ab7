use Rattle.std.proofs.Common.{◌≡◌, ◌≤◌, ◌∙◌, ℕ, length, ap, refl, subst, sym}
use Rattle.doc_reader.specs.Standing.{said_of}
use Rattle.buf_tree.specs.View.{View}
use Rattle.projector.specs.Calls.{tally_of}
use Rattle.projector.specs.declared.projector.Tally.{Tally}
use Rattle.run_part.specs.Actors.{BalancesEach, FeedsEach, IsQuietFor, MayFeed, counted, is_quiet}
use Rattle.run_part.specs.View.{ActorsView}
use Rattle.run_part.specs.declared.actors.Tallied.{Tallied}
use Rattle.run_part.proofs.Acting.{on_err}
use Rattle.run_part.proofs.FeedingOne.{fed_depth, fed_may, fed_nodes, fed_place, feeds_one, feeds_quietly, fed_balance, old_balance}
use Rattle.run_part.proofs.Taking.{told_all}
use Rattle.std.proofs.Common.{◌++◌, List}
use Rattle.gcx_model.specs.Demand.{Line, text_of_lines}
use Rattle.run_part.specs.Telling.{GrewPart, TellsEach, TellsPart, token_text, told_lines}
use Rattle.run_part.proofs.Telling.{part_none}
use Rattle.run_part.proofs.TellingFed.{one_told}
use Rattle.run_part.proofs.actors.Actors.feed_told.Goals as goal

pub feed_token-requires-clause-place : goal.feed_token-requires-clause-place
feed_token-requires-clause-place g c =
    let old : ActorsView g.row.C.Denot = record { projector = c.self.inside.projector; buffer = c.self.inside.buffer; machine = c.self.inside.machine; counts = c.self.inside.counts } in
    fed_place g.C.Conds.stands old (said_of c.args.token) (subst (λ (z : ActorsView g.row.C.Denot). MayFeed g.C.Conds.stands z (said_of c.args.token)) (sym c.self.view_is) c.requires)

pub feed_token-requires-clause-may : goal.feed_token-requires-clause-may
feed_token-requires-clause-may g c =
    let old : ActorsView g.row.C.Denot = record { projector = c.self.inside.projector; buffer = c.self.inside.buffer; machine = c.self.inside.machine; counts = c.self.inside.counts } in
    fed_may g.C.Conds.stands old (said_of c.args.token) (subst (λ (z : ActorsView g.row.C.Denot). MayFeed g.C.Conds.stands z (said_of c.args.token)) (sym c.self.view_is) c.requires)

pub feed_token-requires-clause-nodes : goal.feed_token-requires-clause-nodes
feed_token-requires-clause-nodes g c =
    let old : ActorsView g.row.C.Denot = record { projector = c.self.inside.projector; buffer = c.self.inside.buffer; machine = c.self.inside.machine; counts = c.self.inside.counts } in
    fed_nodes g.C.Conds.stands old (said_of c.args.token) (subst (λ (z : ActorsView g.row.C.Denot). MayFeed g.C.Conds.stands z (said_of c.args.token)) (sym c.self.view_is) c.requires)

pub feed_token-requires-clause-depth : goal.feed_token-requires-clause-depth
feed_token-requires-clause-depth g c =
    let old : ActorsView g.row.C.Denot = record { projector = c.self.inside.projector; buffer = c.self.inside.buffer; machine = c.self.inside.machine; counts = c.self.inside.counts } in
    fed_depth g.C.Conds.stands old (said_of c.args.token) (subst (λ (z : ActorsView g.row.C.Denot). MayFeed g.C.Conds.stands z (said_of c.args.token)) (sym c.self.view_is) c.requires)

pub returns-in_err-kind-clause-balance : goal.returns-in_err-kind-clause-balance
returns-in_err-kind-clause-balance g c =
    let old = c.args.self.now in
    let h : BalancesEach g.C.Conds.stands old old (said_of c.args.token) = λ plan P k a m y. old_balance g.C.Conds.stands plan old P k a y in
    on_err _ _ h

pub returns-in_err-fed-clause-balance : goal.returns-in_err-fed-clause-balance
returns-in_err-fed-clause-balance g c =
    let old : ActorsView g.row.C.Denot = record { projector = c.self.inside.projector; buffer = c.self.inside.buffer; machine = c.self.inside.machine; counts = c.self.inside.counts } in
    let d : ActorsView g.row.C.Denot = record old { projector = c.feed_token.new.self; buffer = c.feed_token.new.buffer } in
    let h : BalancesEach g.C.Conds.stands old d (said_of c.args.token)
    = λ plan P k a m y. subst (λ (z : View). z.taken ≤ old.counts.given) (sym c.in_err-fed.ensures.err) (old_balance g.C.Conds.stands plan old P k a y) in
    on_err _ _ (subst (λ (z : ActorsView g.row.C.Denot). BalancesEach g.C.Conds.stands z d (said_of c.args.token)) c.self.view_is h)

pub returns-in_err-tell_token-clause-balance : goal.returns-in_err-tell_token-clause-balance
returns-in_err-tell_token-clause-balance g c =
    let old : ActorsView g.row.C.Denot = record { projector = c.self.inside.projector; buffer = c.self.inside.buffer; machine = c.self.inside.machine; counts = c.self.inside.counts } in
    let w = c.feed_token.new.buffer in
    let f = c.in_ok-fed.fed in
    let o = c.in_ok-fed.ensures.feeds in
    let is : c.count-self-inside.result ≡ counted old.counts (tally_of f) (length w.rows) = c.count-self-inside.ensures ∙ (ap (λ (z : Tally). counted old.counts z c.held.result) c.tally-2.ensures ∙ ap (counted old.counts (tally_of f)) c.held.ensures) in
    let d : ActorsView g.row.C.Denot = record old { projector = c.feed_token.new.self; buffer = w; counts = c.count-self-inside.result } in
    let h : BalancesEach g.C.Conds.stands old d (said_of c.args.token) = λ plan P k a m y.
    subst (λ (z : Tallied). w.taken ≤ z.given) (sym is) (fed_balance g.C.Conds.stands g.met.C.Conds.stands_on old (said_of c.args.token) c.feed_token.new.self w f o.stands o.place o.fed o.changes plan P k a m y) in
    on_err _ _ (subst (λ (z : ActorsView g.row.C.Denot). BalancesEach g.C.Conds.stands z d (said_of c.args.token)) c.self.view_is h)

pub returns-clause-feeds : goal.returns-clause-feeds
returns-clause-feeds g c =
    let old : ActorsView g.row.C.Denot = record { projector = c.self.inside.projector; buffer = c.self.inside.buffer; machine = c.self.inside.machine; counts = c.self.inside.counts } in
    let w = c.feed_token.new.buffer in
    let q = c.feed_token.new.self in
    let f = c.in_ok-fed.fed in
    let o = c.in_ok-fed.ensures.feeds in
    let is : c.count-self-inside.result ≡ counted old.counts (tally_of f) (length w.rows) = c.count-self-inside.ensures ∙ (ap (λ (z : Tally). counted old.counts z c.held.result) c.tally-2.ensures ∙ ap (counted old.counts (tally_of f)) c.held.ensures) in
    let d : ActorsView g.row.C.Denot = record old { projector = q; buffer = c.clear_gone.new.self; counts = c.count-self-inside.result } in
    let same : d ≡ record old { projector = q; buffer = told_all w; counts = c.count-self-inside.result } = ap (λ (z : View). record old { projector = q; buffer = z; counts = c.count-self-inside.result }) c.clear_gone.ensures in
    let form : d ≡ record old { projector = q; buffer = told_all w; counts = counted old.counts (tally_of f) (length w.rows) }
    = subst (λ (z : Tallied). d ≡ record old { projector = q; buffer = told_all w; counts = z }) is same in
    subst (λ (z : ActorsView g.row.C.Denot). FeedsEach g.C.Conds.stands z d (said_of c.args.token)) c.self.view_is
    (feeds_one g.C.Conds.stands g.met.C.Conds.stands_on old (said_of c.args.token) q w f o.stands o.place o.fed o.changes d form)

pub returns-clause-quiet : goal.returns-clause-quiet
returns-clause-quiet g c = λ y.
    let old : ActorsView g.row.C.Denot = record { projector = c.self.inside.projector; buffer = c.self.inside.buffer; machine = c.self.inside.machine; counts = c.self.inside.counts } in
    let o = c.in_ok-fed.ensures.feeds in
    subst (λ (z : ActorsView g.row.C.Denot). IsQuietFor g.C.Conds.stands z (said_of c.args.token)) c.self.view_is
    (feeds_quietly g.C.Conds.stands g.met.C.Conds.stands_on old (said_of c.args.token) c.feed_token.new.self c.feed_token.new.buffer c.in_ok-fed.fed o.stands o.place o.fed o.changes
    (sym (c.is_quiet-quiet.ensures ∙ ap (λ (z : Tally). is_quiet z c.feed_token.new.buffer) c.tally.ensures) ∙ y))

pub returns-in_err-kind-clause-part : goal.returns-in_err-kind-clause-part
returns-in_err-kind-clause-part g c =
    let u = c.args.lines.now in
    let h : TellsPart g.C.Conds.stands c.args.self.now (said_of c.args.token) u u = λ plan P k a m. part_none u u (token_text plan (said_of c.args.token) P k) refl in
    on_err _ _ h

pub returns-in_err-fed-clause-part : goal.returns-in_err-fed-clause-part
returns-in_err-fed-clause-part g c =
    let u = c.args.lines.now in
    let h : TellsPart g.C.Conds.stands c.args.self.now (said_of c.args.token) u u = λ plan P k a m. part_none u u (token_text plan (said_of c.args.token) P k) refl in
    on_err _ _ h

pub returns-in_err-tell_token-clause-part : goal.returns-in_err-tell_token-clause-part
returns-in_err-tell_token-clause-part g c =
    let old : ActorsView g.row.C.Denot = record { projector = c.self.inside.projector; buffer = c.self.inside.buffer; machine = c.self.inside.machine; counts = c.self.inside.counts } in
    let u = c.args.lines.now in
    let v = c.tell_token.new.self in
    let w = c.feed_token.new.buffer in
    let o = c.in_ok-fed.ensures.feeds in
    let h : TellsPart g.C.Conds.stands old (said_of c.args.token) u v = λ plan P k a m.
    subst (λ (z : List Line). GrewPart u v (text_of_lines z))
    (one_told g.C.Conds.stands old (said_of c.args.token) c.feed_token.new.self w c.in_ok-fed.fed c.in_ok-kind.kind c.in_ok-kind.ensures o.stands o.fed o.changes plan P k a m)
    (subst (λ (z : List ℕ). GrewPart u v (text_of_lines (told_lines c.in_ok-fed.fed c.in_ok-kind.kind z))) c.gone.ensures c.in_err-tell_token.ensures.part) in
    on_err _ _ (subst (λ (z : ActorsView g.row.C.Denot). TellsPart g.C.Conds.stands z (said_of c.args.token) u v) c.self.view_is h)

pub returns-clause-told : goal.returns-clause-told
returns-clause-told g c =
    let old : ActorsView g.row.C.Denot = record { projector = c.self.inside.projector; buffer = c.self.inside.buffer; machine = c.self.inside.machine; counts = c.self.inside.counts } in
    let u = c.args.lines.now in
    let v = c.tell_token.new.self in
    let w = c.feed_token.new.buffer in
    let o = c.in_ok-fed.ensures.feeds in
    let h : TellsEach g.C.Conds.stands old (said_of c.args.token) u v = λ plan P k a m.
    subst (λ (z : List ℕ). v ≡ u ++ text_of_lines (told_lines c.in_ok-fed.fed c.in_ok-kind.kind z)) c.gone.ensures c.in_ok-tell_token.ensures.told
    ∙ ap (λ (z : List Line). u ++ text_of_lines z)
    (one_told g.C.Conds.stands old (said_of c.args.token) c.feed_token.new.self w c.in_ok-fed.fed c.in_ok-kind.kind c.in_ok-kind.ensures o.stands o.fed o.changes plan P k a m) in
    subst (λ (z : ActorsView g.row.C.Denot). TellsEach g.C.Conds.stands z (said_of c.args.token) u v) c.self.view_is h
