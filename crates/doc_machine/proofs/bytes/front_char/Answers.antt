use Rattle.std.proofs.Common.{◌∙◌, sym, subst, List, ℕ, ◌≡◌, None}
use Rattle.doc_laws.specs.Machine.{behind}
use Rattle.doc_machine.proofs.Behind.{not_behind}
use Rattle.doc_machine.proofs.bytes.front_char.Goals as goal

pub returns-else-starts_with : goal.returns-else-starts_with
returns-else-starts_with c =
    let is = c.as_bytes-bytes.ensures.value ∙ c.encode_utf8.ensures.value in
    subst (λ (bs : List ℕ). behind bs c.args.left.now ≡ None) is (not_behind c.as_bytes-bytes.result.now c.args.left.now (sym c.starts_with.ensures.value ∙ c.if-starts_with.false))
