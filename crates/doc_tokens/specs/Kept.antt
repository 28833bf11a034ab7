-- These definitions follow the code; no public clause speaks of them.
-- The tokens that are lent, with the text at hand behind their bytes (this project's).
use Rattle.std.specs.Prelude.{ℕ, ◌≡◌, ◌<◌, ◌≤◌, ◌-◌, ◌⊎◌, Bool, true, false, List, [], ◌∷◌, length, map, take, drop, sum_by, if◌then◌else◌, IsUtf8}
use Rattle.gcx_model.specs.Document.{is_blank}
use Rattle.doc_tokens.specs.declared.lent.Lent.{Lent}
use Rattle.doc_tokens.specs.declared.lent.Lent.TheVariants as lents
use Rattle.doc_tokens.specs.Parts.{lent_token, AllLieWithin}
use Rattle.doc_tokens.specs.Tokens.{Queue}

-- the tokens of `lent` behind the first `taken` ones, those of whole tags up to `whole`; the text at hand begins at `start`
abbrev pub lent_queue : (bytes : List ℕ) → (lent : List Lent) → (start taken whole : ℕ) → Queue
lent_queue bytes lent start taken whole = record {
  run = drop start bytes;
  tokens = map (lent_token bytes) (drop taken (take whole lent));
  pending = map (lent_token bytes) (drop whole lent);
}

-- how many bytes the token's part has
abbrev pub part_len : Lent → ℕ
part_len (lents.Start from to) = to - from
part_len (lents.Text from to) = to - from
part_len lents.End = 0

-- The parts lie before the text at hand, those of the tag that is being read after the bytes of the whole tags. No other
-- bytes lie there, so the parts are together as long (`full`, `full_whole`). A token of a whole tag still waits, or all of
-- them are gone (`settled`).
pub record AreKept (bytes : List ℕ) (lent : List Lent) (base start taken whole : ℕ) : Type 0 where
  pub based : base ≤ start
  pub within : start ≤ length bytes
  pub utf8 : IsUtf8 (drop start bytes)
  pub few : taken ≤ whole
  pub enough : whole ≤ length lent
  pub parts : AllLieWithin 0 base bytes (take whole lent)
  pub behind : AllLieWithin base start bytes (drop whole lent)
  pub full_whole : base ≡ sum_by part_len (take whole lent)
  pub full : start ≡ sum_by part_len lent
  pub settled : (taken < whole) ⊎ (whole ≡ 0)

-- the text, unless it is only white space
abbrev pub unless_blank : List ℕ → List ℕ
unless_blank run = if is_blank run then [] else run

-- the text between two places as a token, if there is any
abbrev pub text_part : (from to : ℕ) → Bool → List Lent
text_part from to true = lents.Text from to ∷ []
text_part from to false = []
