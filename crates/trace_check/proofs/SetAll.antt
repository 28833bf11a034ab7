-- Entries of one range after another.
use Rattle.std.proofs.Common.{◌≡◌, ℕ, ◌+◌, ◌<◌, List, [], ◌∷◌, ◌++◌, length, get_or, take, sym, ◌∙◌, ap}
use Rattle.std.specs.Prelude.{◌||◌}
use Rattle.std.proofs.lemmas.List.{take_more}
use Rattle.trace_check.specs.Reaching.{covers, in_range}
use Rattle.trace_check.specs.Wanting.{set_where}
use Rattle.trace_check.specs.declared.reach.Range.{Range}
use Rattle.trace_check.proofs.Entries.{set_same, set_then}
use Rattle.trace_check.proofs.Reached.{covers_push}

pub ranges_more : (ranges : List Range) (i : ℕ) (d : Range) (x : ℕ) (last entries next : List ℕ) → i < length ranges → last ≡ set_where (covers (take i ranges)) x entries
    → next ≡ set_where (λ k. in_range k (get_or ranges i d)) x last → next ≡ set_where (covers (take (i + 1) ranges)) x entries
ranges_more ranges i d x last entries next l e f =
    f
    ∙ (ap (set_where (λ k. in_range k (get_or ranges i d)) x) e
    ∙ (set_then (covers (take i ranges)) (λ k. in_range k (get_or ranges i d)) x entries
    ∙ (set_same (λ k. covers (take i ranges) k || in_range k (get_or ranges i d)) (covers (take i ranges ++ get_or ranges i d ∷ [])) x entries (λ k m. sym (covers_push (take i ranges) (get_or ranges i d) k))
    ∙ ap (λ (rs : List Range). set_where (covers rs) x entries) (sym (take_more ranges i d l)))))
