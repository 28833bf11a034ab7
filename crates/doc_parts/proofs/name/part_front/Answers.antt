use Rattle.std.proofs.Common.{subst, take, length, List, ℕ, ◌≡◌, ◌≤◌, true}
use Rattle.std.specs.List.{list_all}
use Rattle.doc_parts.specs.Spans.{is_short_part}
use Rattle.doc_parts.proofs.Fronts.{short_front_is}
use Rattle.doc_parts.proofs.name.part_front.Goals as goal

pub returns-else-n-bytes : goal.returns-else-n-bytes
returns-else-n-bytes c =
    let n = c.short_front-n.result in
    let bytes = c.as_bytes-bytes.ensures.value in
    short_front_is c.args.text.now n c.utf8.text
    (subst (λ (l : List ℕ). n ≤ length l) bytes c.short_front-n.ensures.within)
    (subst (λ (l : List ℕ). list_all is_short_part (take n l) ≡ true) bytes c.short_front-n.ensures.parts)
