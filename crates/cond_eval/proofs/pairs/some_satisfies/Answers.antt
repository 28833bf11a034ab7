use Rattle.std.proofs.Common.{[], ◌∷◌, ◌∙◌}
use Rattle.gcx_model.specs.Paths.{any}
use Rattle.gcx_model.specs.Values.{Bytes, compare}
use Rattle.cond_eval.specs.Literals.{literal_value}
use Rattle.cond_eval.proofs.Comparisons.{in_at, passes_more, passes_found, passes_all, or_none}
use Rattle.cond_eval.proofs.pairs.some_satisfies.Goals as goal

pub value-requires : goal.value-requires
value-requires g c = c.requires.used _ (in_at c.args.set.now c.loop-member.member-index (record { serial = 0; place = 0 }) c.loop-member-test.true)

pub returns-then-satisfies : goal.returns-then-satisfies
returns-then-satisfies g c P keep ns r =
    passes_found c.args.buffer.now.rows (λ v. any (compare c.args.rel v) (literal_value c.args.literal.now ∷ [])) c.args.set.now c.loop-member.member-index (record { serial = 0; place = 0 }) c.loop-member-test.true c.loop-member.invariant c.in_ok-left.left.now c.in_ok-left.ensures.value c.satisfies.result
    (c.satisfies.ensures ∙ or_none (compare c.args.rel (Bytes c.in_ok-left.left.now) (literal_value c.args.literal.now))) c.if-satisfies.true P keep ns r

pub loop-member-preserved : goal.loop-member-preserved
loop-member-preserved g c =
    passes_more c.args.buffer.now.rows (λ v. any (compare c.args.rel v) (literal_value c.args.literal.now ∷ [])) c.args.set.now c.loop-member.member-index (record { serial = 0; place = 0 }) c.loop-member-test.true c.loop-member.invariant c.in_ok-left.left.now c.in_ok-left.ensures.value c.satisfies.result
    (c.satisfies.ensures ∙ or_none (compare c.args.rel (Bytes c.in_ok-left.left.now) (literal_value c.args.literal.now))) c.if-satisfies.false

pub returns : goal.returns
returns g c P keep ns r = passes_all c.args.buffer.now.rows (λ v. any (compare c.args.rel v) (literal_value c.args.literal.now ∷ [])) c.args.set.now c.loop-member.member-index c.loop-member-test.false c.loop-member.invariant P keep ns r
