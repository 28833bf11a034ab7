use Rattle.std.proofs.Common.{List, ℕ, subst, sym, ◌∙◌}
use Rattle.gcx_base.specs.Name.{IsNameBytes}
use Rattle.xq_lex.proofs.NameLaws.{name_bytes}
use Rattle.xq_lex.proofs.name.name_of.Goals as goal

pub of_name-requires : goal.of_name-requires
of_name-requires c = subst (λ (x : List ℕ). IsNameBytes x) (sym (c.as_bytes.ensures.value ∙ c.in_ok-text.ensures)) (name_bytes c.args.chars.now c.requires)
