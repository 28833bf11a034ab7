use Rattle.std.proofs.Common.{sym, ◌∙◌, subst, Some, None}
use Rattle.gcx_base.specs.declared.steps.Step.{Step}
use Rattle.cond_eval.proofs.Searches.{Searched, starts_from, way_on}
use Rattle.cond_eval.proofs.Texts.{only_self, only_below, no_text_here}
use Rattle.cond_eval.proofs.values.only_text.Goals as goal

pub returns-then-is_text : goal.returns-then-is_text
returns-then-is_text g c = only_self _ _ _ c.requires c.is_text.ensures c.if-is_text.true

pub match_behind-requires : goal.match_behind-requires
match_behind-requires g c = starts_from _ _ c.to_texts.result c.requires

pub match_behind-requires-2 : goal.match_behind-requires-2
match_behind-requires-2 g c = way_on _ _ c.to_texts.result c.to_texts-2.result c.in_ok-first.first (c.to_texts.ensures ∙ sym c.to_texts-2.ensures) c.requires c.in_ok-first.ensures.found

pub returns : goal.returns
returns g c = only_below _ _ c.in_ok-first.first c.requires (no_text_here _ _ _ c.is_text.ensures c.if-is_text.false)
    (subst (λ (s : Step). Searched c.args.buffer.now.rows c.args.place.0 s c.args.place.0 (Some c.in_ok-first.first)) c.to_texts.ensures c.in_ok-first.ensures.found)
    (subst (λ (s : Step). Searched c.args.buffer.now.rows c.args.place.0 s c.in_ok-first.first.0 None) c.to_texts-2.ensures c.in-None.ensures.found)
