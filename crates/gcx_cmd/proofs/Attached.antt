-- What an attach that failed leaves of a shelf.
use Rattle.std.proofs.Common.{◌≡◌, inl, inr, ℕ, ◌≤◌, List, length, slice_get, Err, sym, ap, subst, arith}
use Rattle.gcx_io.specs.Calls.{Attaches}
use Rattle.gcx_io.specs.Views.{HandleView, ShelfView}
use Rattle.gcx_io.specs.declared.fault.AttachFault.{AttachFault}
use Rattle.gcx_io.specs.declared.fault.AttachFault.TheVariants as attach
use Rattle.gcx_cmd.proofs.Along.{keeps_same, misses_none}
use Rattle.gcx_cmd.specs.Main.{HasNoMemory}
use Rattle.gcx_cmd.specs.ReadEnd.{attach_status}
use Rattle.gcx_cmd.specs.Reads.{CausesFault, KeepsShelf, Misses, Opens}
use Rattle.gcx_cmd.specs.declared.status.Status.{Status}
use Rattle.gcx_cmd.specs.declared.status.Status.TheVariants as status

module _ (name : List ℕ) (a b : ShelfView) where
  opened_none : b ≡ a → Opens 0 a b
  opened_none same = record {
    count = omega (arith, ap (λ (v : ShelfView). length v.given) same);
    refused = ap (λ (v : ShelfView). v.refused) same;
  }

  -- the status says that the file isn't there, or that there was no memory
  pub unattached : (P : Status → Type 0) (why : AttachFault) → Attaches name a b (Err why) → (Misses 0 name a b → P status.ReadFault) → (Opens 0 a b → P status.Memory)
      → P (attach_status why)
  unattached P attach.Failed gone missed lacks = missed (misses_none name a b gone.0)
  unattached P attach.Memory same missed lacks = lacks (opened_none same)

  pub unattached_keeps : (why : AttachFault) → Attaches name a b (Err why) → a.faults ≤ b.faults → KeepsShelf a b
  unattached_keeps attach.Failed gone later = record {
    names = gone.0.names;
    given = λ k within. ap (λ (l : List HandleView). slice_get l k) gone.0.given;
    faults = later;
    write_faults = gone.1;
  }
  unattached_keeps attach.Memory same later = subst (λ (v : ShelfView). KeepsShelf a v) (sym same) (keeps_same a)

  pub unattached_cause : (why : AttachFault) → Attaches name a b (Err why) → attach_status why ≡ status.ReadFault → CausesFault name a b
  unattached_cause attach.Failed gone is = elim gone.2 [
    | inl rose ↦ inl rose
    | inr missing ↦ inr (missing.0, length a.given, gone.0.refused)
  ]
  unattached_cause attach.Memory same is = absurd (cc)

pub unattached_memory : (why : AttachFault) → HasNoMemory (attach_status why)
unattached_memory attach.Failed = tt
unattached_memory attach.Memory = tt

pub unattached_reads : (why : AttachFault) → attach_status why ≡ status.WriteFault → ⊥
unattached_reads attach.Failed is = cc
unattached_reads attach.Memory is = cc
