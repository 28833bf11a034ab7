-- Completeness, from what each status says and from the causes of faults.
use Rattle.std.proofs.Common.{◌≡◌, ◌⊎◌, ℕ, true, List, inl, inr, refl, sym, ◌∙◌, ap, subst}
use Rattle.std.specs.declared.option.Option.TheVariants as o
use Rattle.gcx_base.specs.Limits.{full_limits}
use Rattle.gcx_model.specs.declared.fault.DocFault.{DocFault}
use Rattle.gcx_model.specs.declared.fault.QueryFault.{QueryFault}
use Rattle.gcx_model.specs.Faults.{FaultIs}
use Rattle.gcx_model.specs.Normal.{normal}
use Rattle.gcx_model.specs.Query.{ExprTree}
use Rattle.signoff_place.specs.Refused.{refusal_of}
use Rattle.doc_laws.proofs.Unique.{fault_one}
use Rattle.gcx_io.specs.Shelf.{Names, content_of, IsMissing}
use Rattle.gcx_cmd.specs.Main.{IsQuery, IsDocument, SaysOfQuery, SaysOfDocument, QueryFaultOf}
use Rattle.gcx_cmd.specs.declared.status.Status.{Status}
use Rattle.gcx_cmd.specs.declared.status.Status.TheVariants as statuses

pub there : (names : Names) (name bytes : List ℕ) → content_of names name ≡ o.Some bytes → IsMissing names name → ⊥
there o.None name bytes told missing = missing
there (o.Some holds) name bytes told missing = cc

no_fault_some : (f : QueryFault) → o.None ≡ o.Some f → ⊥
no_fault_some f e = cc

no_some : (f : DocFault) → o.None ≡ o.Some f → ⊥
no_some f e = cc

-- an accepted query isn't refused
pub refused_not : (query : List ℕ) (f : QueryFault) → QueryFaultOf query f → IsQuery query → ⊥
refused_not query f (inl h) good = h.1.no_query good.0 good.1.spells good.1.sound
refused_not query f (inr h) good =
    no_fault_some f (sym (subst (λ (q : List ExprTree). refusal_of (normal q) ≡ o.None) (h.only.once good.0 good.1.spells) good.1.within) ∙ h.limit)

-- bytes are refused for one reason
some_one : (f g : QueryFault) → o.Some f ≡ o.Some g → f ≡ g
some_one f g e = cc

pub one_refusal : (query : List ℕ) (f g : QueryFault) → QueryFaultOf query f → QueryFaultOf query g → f ≡ g
one_refusal query f g (inl h) (inl k) = k.1.once f h.0
one_refusal query f g (inl h) (inr k) = absurd (h.1.no_query k.query k.spells k.sound)
one_refusal query f g (inr h) (inl k) = absurd (k.1.no_query h.query h.spells h.sound)
one_refusal query f g (inr h) (inr k) = some_one f g (sym h.limit ∙ subst (λ (q : List ExprTree). refusal_of (normal q) ≡ o.Some g) (h.only.once k.query k.spells) k.limit)

pub refused_from : (status : Status) (query : List ℕ) (f : QueryFault) → SaysOfQuery status query → QueryFaultOf query f → (status ≡ statuses.Usage → ⊥) → (status ≡ statuses.ReadFault → ⊥) → (status ≡ statuses.QueryRefused f) ⊎ (status ≡ statuses.Memory)
refused_from statuses.Ok query f says refused not_usage not_read = absurd (refused_not query f refused (says.0, says.1))
refused_from statuses.Usage query f says refused not_usage not_read = absurd (not_usage refl)
refused_from (statuses.QueryRefused g) query f says refused not_usage not_read = inl (ap statuses.QueryRefused (one_refusal query g f says refused))
refused_from (statuses.DocumentRefused g) query f says refused not_usage not_read = absurd (refused_not query f refused (says.0, says.1))
refused_from statuses.ReadFault query f says refused not_usage not_read = absurd (not_read refl)
refused_from statuses.WriteFault query f says refused not_usage not_read = absurd (refused_not query f refused (says.0, says.1))
refused_from statuses.Memory query f says refused not_usage not_read = inr refl
refused_from (statuses.TraceRefused n) query f says refused not_usage not_read = absurd (refused_not query f refused (says.0, says.1))

pub complete_from : (status : Status) (query document : List ℕ) → SaysOfQuery status query → SaysOfDocument status document → IsQuery query → IsDocument document
    → (status ≡ statuses.ReadFault → ⊥) → (status ≡ statuses.WriteFault → ⊥) → ((n : ℕ) × (status ≡ statuses.TraceRefused n)) ⊎ ((status ≡ statuses.Ok) ⊎ (status ≡ statuses.Memory))
complete_from statuses.Ok q d says_q says_d good_q good_d not_read not_write = inr (inl refl)
complete_from statuses.Usage q d says_q says_d good_q good_d not_read not_write = absurd says_q
complete_from (statuses.QueryRefused f) q d says_q says_d good_q good_d not_read not_write = absurd (refused_not q f says_q good_q)
complete_from (statuses.DocumentRefused f) q d says_q says_d good_q good_d not_read not_write = absurd (no_some f (fault_one full_limits d true o.None (o.Some f) good_d says_d))
complete_from statuses.ReadFault q d says_q says_d good_q good_d not_read not_write = absurd (not_read refl)
complete_from statuses.WriteFault q d says_q says_d good_q good_d not_read not_write = absurd (not_write refl)
complete_from statuses.Memory q d says_q says_d good_q good_d not_read not_write = inr (inr refl)
complete_from (statuses.TraceRefused n) q d says_q says_d good_q good_d not_read not_write = inl (n, refl)

-- the document is refused, and the query isn't
pub document_refused_from : (status : Status) (query document : List ℕ) (f : DocFault) → SaysOfQuery status query → SaysOfDocument status document → IsQuery query → FaultIs full_limits document true (o.Some f)
    → (status ≡ statuses.ReadFault → ⊥) → (status ≡ statuses.WriteFault → ⊥) → (status ≡ statuses.DocumentRefused f) ⊎ (status ≡ statuses.Memory)
document_refused_from statuses.Ok q d f says_q says_d good_q bad_d not_read not_write = absurd (no_some f (fault_one full_limits d true o.None (o.Some f) says_d bad_d))
document_refused_from statuses.Usage q d f says_q says_d good_q bad_d not_read not_write = absurd says_q
document_refused_from (statuses.QueryRefused g) q d f says_q says_d good_q bad_d not_read not_write = absurd (refused_not q g says_q good_q)
document_refused_from (statuses.DocumentRefused g) q d f says_q says_d good_q bad_d not_read not_write = inl (ap statuses.DocumentRefused (same_fault g f (fault_one full_limits d true (o.Some g) (o.Some f) says_d bad_d)))
  where
    same_fault : (g f : DocFault) → o.Some g ≡ o.Some f → g ≡ f
    same_fault g f e = cc
document_refused_from statuses.ReadFault q d f says_q says_d good_q bad_d not_read not_write = absurd (not_read refl)
document_refused_from statuses.WriteFault q d f says_q says_d good_q bad_d not_read not_write = absurd (not_write refl)
document_refused_from statuses.Memory q d f says_q says_d good_q bad_d not_read not_write = inr refl
document_refused_from (statuses.TraceRefused n) q d f says_q says_d good_q bad_d not_read not_write = absurd (no_some f (fault_one full_limits d true o.None (o.Some f) says_d bad_d))
