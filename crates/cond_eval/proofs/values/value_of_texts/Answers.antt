use Rattle.cond_eval.specs.Reads.{IsValue}
use Rattle.std.specs.Str.{IsUtf8}
use Rattle.std.proofs.Common.{sym, subst, List, ℕ}
use Rattle.cond_eval.proofs.Texts.{only_value, texts_value}
use Rattle.cond_eval.proofs.values.value_of_texts.Goals as goal

pub returns-in-Some-clause-value : goal.returns-in-Some-clause-value
returns-in-Some-clause-value g c = only_value _ _ _ _ c.in-Some.ensures c.bytes_at.ensures.bytes

pub returns-clause-value : goal.returns-clause-value
returns-clause-value g c = subst (λ (v : List ℕ). IsValue c.args.buffer.now.rows c.args.place.0 v) (sym c.as_slice.ensures.value) (texts_value _ _ _ c.in_default.ensures c.in_ok-gather.ensures.texts)

pub returns-clause-utf8 : goal.returns-clause-utf8
returns-clause-utf8 g c = subst IsUtf8 (sym c.as_slice.ensures.value) c.in_ok-gather.ensures.utf8
