-- One read of a handle, as a read of a source.
use Rattle.std.proofs.Common.{◌≡◌, ℕ, zero, suc, List, [], ◌∷◌, ◌++◌, slice_get, Result, Option, Some, sym, ap, subst, ◌∙◌}
use Rattle.std.specs.Io.KnownBytes.{ReadConsumes}
use Rattle.gcx_io.specs.Views.{Call, HandleView, ShelfView, SourceView, calls_at}
use Rattle.gcx_io.specs.Calls.{read_call, ReadsOnce, ReadsSource}
use Rattle.gcx_io.proofs.Filed.{get_set}

calls_there : (given : List HandleView) (h : ℕ) (v : HandleView) → slice_get given h ≡ Some v → calls_at given h ≡ v.calls
calls_there [] h v there = cc
calls_there (x ∷ given) zero v there = cc
calls_there (x ∷ given) (suc h) v there = calls_there given h v there

-- how one handle of the shelf is seen, with what the shelf says that it has left
abbrev pub opened_seen : ShelfView → ℕ → Option (List ℕ) → SourceView
opened_seen s h left = record { calls = calls_at s.given h; left = left; faults = s.faults }

pub source_reads : {E : Type 0} (h : ℕ) (a b : ShelfView) (r : Result ℕ E) (buf : List ℕ) (before after : Option (List ℕ)) → ReadsOnce h a b r buf
    → ((v : HandleView) → slice_get a.given h ≡ Some v → before ≡ v.left) → ((v : HandleView) → slice_get b.given h ≡ Some v → after ≡ v.left)
    → ReadsSource (opened_seen a h before) (opened_seen b h after) r buf
source_reads h a b r buf before after once was now =
    let there : slice_get b.given h ≡ Some once.new = ap (λ (l : List HandleView). slice_get l h) once.given ∙ get_set a.given h once.old once.new once.was in
    record {
      calls = calls_there b.given h once.new there ∙ once.calls ∙ ap (λ (l : List Call). l ++ read_call r buf ∷ []) (sym (calls_there a.given h once.old once.was));
      left = subst (λ (o : Option (List ℕ)). ReadConsumes o after r buf) (sym (was once.old once.was))
          (subst (λ (o : Option (List ℕ)). ReadConsumes once.old.left o r buf) (sym (now once.new there)) once.left);
      faults = once.faults;
      calm = once.calm;
    }

-- the same, as the shelf's members tell it
pub source_reads_as : {E : Type 0} (h : ℕ) (a b sa sb : ShelfView) (r : Result ℕ E) (buf : List ℕ) (before after : Option (List ℕ)) → a ≡ sa → b ≡ sb → ReadsOnce h a b r buf
    → ((v : HandleView) → slice_get sa.given h ≡ Some v → before ≡ v.left) → ((v : HandleView) → slice_get sb.given h ≡ Some v → after ≡ v.left)
    → ReadsSource (opened_seen sa h before) (opened_seen sb h after) r buf
source_reads_as h a b sa sb r buf before after x y once was now =
    source_reads h sa sb r buf before after (subst (λ (s : ShelfView). ReadsOnce h s sb r buf) x (subst (λ (s : ShelfView). ReadsOnce h a s r buf) y once)) was now
