use Rattle.std.proofs.Common.{◌≡◌, ◌++◌, ℕ, List, length, true}
use Rattle.std.specs.List.{list_all}
use Rattle.std.specs.Str.{chars, IsUtf8}
use Rattle.gcx_base.specs.Characters.{is_part_char}
use Rattle.doc_parts.proofs.name.wide_front.Given as goal

abbrev pub invariant-loop-at : goal.invariant-loop-at
invariant-loop-at l = (front : List ℕ) × IsUtf8 front × (list_all is_part_char (chars front) ≡ true) × (l.text ≡ front ++ l.at-iterator.rest.now) × (length front ≡ l.at-iterator.at)
