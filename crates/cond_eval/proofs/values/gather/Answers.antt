use Rattle.std.proofs.Common.{sym, subst, List, ℕ}
use Rattle.std.specs.Str.{IsUtf8}
use Rattle.std.proofs.lemmas.Str.{IsUtf8-append, IsUtf8-nil}
use Rattle.cond_eval.proofs.Searches.{starts_from}
use Rattle.cond_eval.proofs.Texts.{GathersTo, texts_start, texts_way, texts_on, texts_less, texts_end}
use Rattle.cond_eval.proofs.values.gather.Goals as goal

pub match_behind-at-requires : goal.match_behind-at-requires
match_behind-at-requires g c = starts_from _ _ c.to_texts-step.result c.requires

pub texts-init : goal.texts-init
texts-init g c = (
  subst (λ (v : List ℕ). GathersTo c.args.buffer.now.rows c.args.place.0 c.to_texts-step.result v c.match_behind-at.result) (sym c.clear.ensures.items)
      (texts_start _ _ c.to_texts-step.result _ c.to_texts-step.ensures c.requires c.match_behind-at.ensures.found c.match_behind-at.ensures.serial),
  subst IsUtf8 (sym c.clear.ensures.items) IsUtf8-nil,
)

pub bytes_at-requires : goal.bytes_at-requires
bytes_at-requires g c = (texts_way _ _ c.to_texts-step.result _ c.in-Some.here (rw c.in-Some.is at c.texts.invariant.0)).from

pub match_behind-at-requires-in-Some : goal.match_behind-at-requires-in-Some
match_behind-at-requires-in-Some g c = texts_way _ _ c.to_texts-step.result _ c.in-Some.here (rw c.in-Some.is at c.texts.invariant.0)

pub texts-smaller : goal.texts-smaller
texts-smaller g c = rw c.in-Some.is (texts_less _ _ c.to_texts-step.result _ c.in-Some.here _ (rw c.in-Some.is at c.texts.invariant.0) c.match_behind-at-in-Some.ensures.found c.match_behind-at-in-Some.ensures.serial)

pub texts-preserved : goal.texts-preserved
texts-preserved g c = (
  texts_on _ _ c.to_texts-step.result _ _ c.bytes_at.result.now c.in-Some.here _ (rw c.in-Some.is at c.texts.invariant.0) c.bytes_at.ensures.bytes c.in_ok-extend_from_slice.ensures.items c.match_behind-at-in-Some.ensures.found c.match_behind-at-in-Some.ensures.serial,
  subst IsUtf8 (sym c.in_ok-extend_from_slice.ensures.items) (IsUtf8-append _ _ c.texts.invariant.1 c.bytes_at.ensures.utf8),
)

pub returns-clause-texts : goal.returns-clause-texts
returns-clause-texts g c = texts_end _ _ c.to_texts-step.result _ (rw c.in_default.is at c.texts.invariant.0)
