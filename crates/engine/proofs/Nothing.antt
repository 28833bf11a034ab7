-- No byte was read: there is no fault, and no token is seen.
use Rattle.std.proofs.Common.{◌≡◌, ℕ, ◌≤◌, Bool, false, List, [], ◌∷◌, ◌++◌, length, refl, subst, arith, Some, None}
use Rattle.std.proofs.lemmas.Bool.{false≢true, and_parts}
use lib.Utf8.{encode}
use Rattle.gcx_base.specs.declared.limits.Limits.{Limits}
use Rattle.gcx_base.specs.Utf8.{IsCharFront}
use Rattle.gcx_model.specs.declared.fault.DocFault.{DocFault}
use Rattle.gcx_model.specs.declared.fault.DocFault.TheVariants.{TooLong}
use Rattle.gcx_model.specs.Faults.{FaultIs, none_yet, within_limit, before_limit, past_limit}
use Rattle.gcx_model.specs.Tree.{TreeToken as Said, Start, Chars, End, opening, grow}
use Rattle.gcx_model.specs.Growth.{may_all}
use Rattle.gcx_model.specs.Seen.{SeenIs}
use Rattle.doc_laws.proofs.TreeBounds.{seen_within}
use Rattle.doc_laws.proofs.Growing.{seen_comes}
use Rattle.doc_laws.proofs.Found.{found_seen}

-- bytes without a fault are no more than may be
pub none_within : (lim : Limits) (b : List ℕ) (ended : Bool) → FaultIs lim b ended None → length b ≤ lim.bytes
none_within lim b ended (within_limit h w) = h
none_within lim b ended (before_limit f h w e) = absurd (no_some f e)
  where
    no_some : (f : DocFault) → None ≡ Some f → ⊥
    no_some f e = cc
none_within lim b ended (past_limit h w e) = absurd (no_some (TooLong lim.bytes) e)
  where
    no_some : (f : DocFault) → None ≡ Some f → ⊥
    no_some f e = cc

no_character : IsCharFront []
unfolding encode
no_character = record { c = 97; rest = 97 ∷ []; scalar = refl; bytes = refl; more = omega arith }

nowhere : (front rest : List ℕ) (c : ℕ) → [] ≡ front ++ (c ∷ rest) → ⊥
nowhere [] rest c e = cc
nowhere (x ∷ front) rest c e = cc

pub none_at_start : (lim : Limits) → FaultIs lim [] false None
none_at_start lim = within_limit (omega arith) (none_yet [] [] (record { chars = refl; parts = refl; part = no_character }) (λ front c rest f e comes. nowhere front rest c e) refl refl)

none_seen : (lim : Limits) (ts : List Said) → SeenIs lim [] false ts → ts ≡ []
none_seen lim [] s = refl
none_seen lim (Start name ∷ ts) s = let n = (seen_within lim [] false (Start name ∷ ts) (Start name ∷ []) ts s refl).nodes in absurd (omega arith)
none_seen lim (Chars b ∷ ts) s = absurd (false≢true (and_parts false (may_all ts (grow (Chars b) opening)) (seen_comes lim [] false (Chars b ∷ ts) s)).0)
none_seen lim (End ∷ ts) s = absurd (false≢true (and_parts false (may_all ts (grow End opening)) (seen_comes lim [] false (End ∷ ts) s)).0)

pub nothing_seen : (lim : Limits) → SeenIs lim [] false []
nothing_seen lim = let s = found_seen lim [] false in subst (λ (z : List Said). SeenIs lim [] false z) (none_seen lim s.0 s.1) s.1
