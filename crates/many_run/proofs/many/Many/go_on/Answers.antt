use Rattle.std.proofs.Common.{◌≡◌, ◌∙◌, Option, sym, ap, subst}
use Rattle.gcx_model.specs.declared.fault.DocFault.{DocFault}
use Rattle.doc_reader.specs.Standing.{KeepsAnswer}
use Rattle.engine.specs.Going.{lacking}
use Rattle.run_part.proofs.Results.{err_map, ok_map}
use Rattle.engine.proofs.Waiting.{refusal_is}
use Rattle.many_run.specs.Parts.{BreaksEach, FedBy, FedSome, OfGiven}
use Rattle.many_run.specs.View.{ManyView}
use Rattle.many_run.proofs.Going.{goes_by}
use Rattle.many_run.proofs.many.Many.go_on.Goals as goal

pub returns-clause-goes : goal.returns-clause-goes
returns-clause-goes g c =
    let n : ManyView g.row.C.Denot = record { reader = c.self.inside.reader; parts = c.self.inside.parts.items; bytes = c.self.inside.bytes; refused = c.self.inside.refused; ended = c.self.inside.ended } in
    let d : ManyView g.row.C.Denot = record n { refused = c.lacking-self-inside.result } in
    let fed = c.feed_waiting-fed.result in
    let e = c.feed_waiting-fed.new.self in
    λ lim b ended given h.
    let o = c.refusal.result in
    let is : o ≡ c.args.self.now.reader.refused = c.refusal.ensures ∙ refusal_is c.args.self.now.reader.refused c.args.read c.requires.read in
    let feeds = ok_map fed (λ (k : OfGiven g.C.Conds.stands c.args.self.now (FedSome g.C.Conds.stands c.args.self.now e)). k lim b ended given h) c.feed_waiting-fed.ensures.feeds in
    let breaks = err_map fed (λ (k : OfGiven g.C.Conds.stands c.args.self.now (BreaksEach c.args.self.now e)). k lim b ended given h) c.feed_waiting-fed.ensures.breaks in
    let r : c.lacking-self-inside.result ≡ lacking o fed = c.lacking-self-inside.ensures in
    subst (λ (z : ManyView g.row.C.Denot). FedBy g.C.Conds.stands c.args.self.now z lim b ended given)
    (ap (λ (z : ManyView g.row.C.Denot). record z { refused = lacking o fed }) (sym c.self.view_is) ∙ ap (λ (x : Option DocFault). record n { refused = x }) (sym r))
    (goes_by g.C.Conds.stands lim b ended given c.args.self.now e o fed is feeds c.feed_waiting-fed.ensures.none breaks)

pub returns-clause-keeps : goal.returns-clause-keeps
returns-clause-keeps g c = subst (λ (z : ManyView g.row.C.Denot). KeepsAnswer c.args.self.now.reader z.reader) (sym c.self.view_is) c.feed_waiting-fed.ensures.keeps

pub returns-clause-bytes : goal.returns-clause-bytes
returns-clause-bytes g c = ap (λ (z : ManyView g.row.C.Denot). z.bytes) c.self.view_is ∙ ap (λ (z : ManyView g.row.C.Denot). z.bytes) c.feed_waiting-fed.ensures.rest

pub returns-clause-closing : goal.returns-clause-closing
returns-clause-closing g c = ap (λ (z : ManyView g.row.C.Denot). z.ended) c.self.view_is ∙ ap (λ (z : ManyView g.row.C.Denot). z.ended) c.feed_waiting-fed.ensures.rest
