-- What QUERY holds, from what was read.
use Rattle.std.proofs.Common.{◌≡◌, ℕ, List, sym, subst, inl, inr}
use Rattle.std.specs.Prelude.{Result, Ok, Err, IfErr, IfOk, MatchResult}
use Rattle.std.specs.declared.option.Option.TheVariants.{None, Some}
use Rattle.gcx_model.specs.Normal.{normal}
use Rattle.gcx_model.specs.Query.{ExprTree, query_trees}
use Rattle.gcx_model.specs.PlanView.{plan_tree}
use Rattle.gcx_cmd.specs.Accepted.{IsAcceptedOf, EndsQuery}
use Rattle.gcx_cmd.specs.QueryDoes.{AcceptsQuery, ReadsText, StopsInQuery}
use Rattle.gcx_cmd.specs.Reads.{Opens}
use Rattle.gcx_io.specs.Views.{ShelfView}
use Rattle.run_words.specs.Stops.{EndAnswered}
use Rattle.gcx_cmd.specs.declared.query.Accepted.{Accepted}
use Rattle.gcx_cmd.specs.declared.status.Status.{Status}
use Rattle.signoff_place.specs.Refused.{refusal_of}
use Rattle.gcx_model.specs.declared.fault.QueryFault.{QueryFault}
use Rattle.gcx_model.specs.declared.fault.QueryFault.TheVariants.{Utf8, Lex, Syntax, UnknownVar, TagMismatch, DescendantNotLast, IntegerWide, TooLarge, Memory}
use Rattle.xq_parse.specs.Faults.{TextFaultOf, HasOnlyQuery, HasOnlyRefusal}
use Rattle.gcx_model.specs.Refusals.{UnlessMemory}
use Rattle.gcx_cmd.specs.declared.status.Status.TheVariants as status
use Rattle.gcx_cmd.specs.Main.{SpellsOne, Accepts, HasNoMemory, QueryFaultOf, SaysOfQuery, PassesLimit}
use Rattle.gcx_cmd.specs.Running.{IsPlanOf, IsPlaced}
use Rattle.gcx_cmd.specs.ReadEnd.{query_status}
use Rattle.placed_laws.proofs.Moved.{normal_good}

pub accepted_of : (bytes : List ℕ) (q : List ExprTree) → SpellsOne bytes q → refusal_of (normal q) ≡ None → Accepts bytes q
accepted_of bytes q one within = record { spells = one.spells; sound = one.sound; within = within }

passes : (bytes : List ℕ) (q : List ExprTree) (f : QueryFault) → SpellsOne bytes q → refusal_of (normal q) ≡ Some f → PassesLimit bytes f
passes bytes q f one limit = record { query = q; spells = one.spells; sound = one.sound; only = one.only; limit = limit }

-- the first limit that the core of the one query passes
pub limit_passed : (bytes : List ℕ) (q : List ExprTree) (f : QueryFault) → SpellsOne bytes q → UnlessMemory (λ (fault : QueryFault). refusal_of (normal q) ≡ Some fault) f → SaysOfQuery (query_status f) bytes
limit_passed bytes q (Utf8 at) one h = inr (passes bytes q (Utf8 at) one h)
limit_passed bytes q (Lex at) one h = inr (passes bytes q (Lex at) one h)
limit_passed bytes q (IntegerWide at) one h = inr (passes bytes q (IntegerWide at) one h)
limit_passed bytes q (Syntax at) one h = inr (passes bytes q (Syntax at) one h)
limit_passed bytes q (TagMismatch at) one h = inr (passes bytes q (TagMismatch at) one h)
limit_passed bytes q (UnknownVar at) one h = inr (passes bytes q (UnknownVar at) one h)
limit_passed bytes q (DescendantNotLast at) one h = inr (passes bytes q (DescendantNotLast at) one h)
limit_passed bytes q (TooLarge what limit) one h = inr (passes bytes q (TooLarge what limit) one h)
limit_passed bytes q Memory one h = tt

pub refused_by : (bytes : List ℕ) (f : QueryFault) → UnlessMemory (TextFaultOf bytes) f → UnlessMemory (HasOnlyRefusal bytes) f → SaysOfQuery (query_status f) bytes
refused_by bytes (Utf8 at) h k = inl (h, k)
refused_by bytes (Lex at) h k = inl (h, k)
refused_by bytes (IntegerWide at) h k = inl (h, k)
refused_by bytes (Syntax at) h k = inl (h, k)
refused_by bytes (TagMismatch at) h k = inl (h, k)
refused_by bytes (UnknownVar at) h k = inl (h, k)
refused_by bytes (DescendantNotLast at) h k = inl (h, k)
refused_by bytes (TooLarge what limit) h k = inl (h, k)
refused_by bytes Memory h k = tt

-- ---- what was read of QUERY

pub accepts_text : (q text : List ℕ) (a b : ShelfView) (x : Accepted) → ReadsText q text a b → IsAcceptedOf text x → AcceptsQuery q a b (query_trees x.query)
accepts_text q text a b x r is = record {
  pieces = r.pieces;
  reads = r.reads;
  within = r.within;
  accepts = subst (λ (l : List ℕ). Accepts l (query_trees x.query)) (sym r.whole) is.accepts;
  only = subst (λ (l : List ℕ). HasOnlyQuery l (query_trees x.query)) (sym r.whole) is.only;
}

-- it isn't accepted, or memory ran out
pub stops_text : (q text : List ℕ) (a b : ShelfView) (s : Status) → Opens 1 a b → ReadsText q text a b → SaysOfQuery s text → EndsQuery s → StopsInQuery q s a b
stops_text q text a b status.Ok one r says ends = absurd ends
stops_text q text a b status.Usage one r says ends = absurd ends
stops_text q text a b (status.QueryRefused f) one r says ends =
    record { opens = one; pieces = r.pieces; why = inl (r.reads, r.within, subst (λ (l : List ℕ). QueryFaultOf l f) (sym r.whole) says) }
stops_text q text a b (status.DocumentRefused f) one r says ends = absurd ends
stops_text q text a b status.ReadFault one r says ends = absurd ends
stops_text q text a b status.WriteFault one r says ends = absurd ends
stops_text q text a b status.Memory one r says ends = inr (one, r.pieces, EndAnswered, r.reads, inl (tt, r.within))
stops_text q text a b (status.TraceRefused n) one r says ends = absurd ends

pub no_read_fault : (s : Status) → EndsQuery s → s ≡ status.ReadFault → ⊥
no_read_fault status.Ok ends e = ends
no_read_fault status.Usage ends e = ends
no_read_fault (status.QueryRefused f) ends e = cc
no_read_fault (status.DocumentRefused f) ends e = ends
no_read_fault status.ReadFault ends e = ends
no_read_fault status.WriteFault ends e = ends
no_read_fault status.Memory ends e = cc
no_read_fault (status.TraceRefused n) ends e = ends

pub ends_memory : (s : Status) → EndsQuery s → HasNoMemory s
ends_memory status.Ok ends = absurd ends
ends_memory status.Usage ends = absurd ends
ends_memory (status.QueryRefused f) ends = ends
ends_memory (status.DocumentRefused f) ends = absurd ends
ends_memory status.ReadFault ends = absurd ends
ends_memory status.WriteFault ends = absurd ends
ends_memory status.Memory ends = tt
ends_memory (status.TraceRefused n) ends = absurd ends

pub placed_by : (x : Accepted) → IsPlanOf (query_trees x.query) (plan_tree x.plan) → IsPlaced (plan_tree x.plan)
placed_by x is = (normal (query_trees x.query), normal_good (query_trees x.query), is.placed)

-- ---- the same of the answer

module _ (q text : List ℕ) (a b : ShelfView) (one : Opens 1 a b) (r : ReadsText q text a b) where
  pub query_accepted : (x : Result Accepted Status) → MatchResult x (IsAcceptedOf text) (λ (s : Status). SaysOfQuery s text)
      → IfOk x (λ (y : Accepted). Opens 1 a b × AcceptsQuery q a b (query_trees y.query))
  query_accepted (Ok y) told = (one, accepts_text q text a b y r told)
  query_accepted (Err s) told = tt

  pub query_stops : (x : Result Accepted Status) → MatchResult x (IsAcceptedOf text) (λ (s : Status). SaysOfQuery s text) → IfErr x EndsQuery
      → IfErr x (λ (s : Status). StopsInQuery q s a b)
  query_stops (Ok y) told ends = tt
  query_stops (Err s) told ends = stops_text q text a b s one r told ends

pub query_plan : (text : List ℕ) (x : Result Accepted Status) → MatchResult x (IsAcceptedOf text) (λ (s : Status). SaysOfQuery s text)
    → IfOk x (λ (y : Accepted). IsPlanOf (query_trees y.query) (plan_tree y.plan))
query_plan text (Ok y) told = told.plan_is
query_plan text (Err s) told = tt

pub query_placed : (text : List ℕ) (x : Result Accepted Status) → MatchResult x (IsAcceptedOf text) (λ (s : Status). SaysOfQuery s text)
    → IfOk x (λ (y : Accepted). IsPlaced (plan_tree y.plan))
query_placed text (Ok y) told = placed_by y told.plan_is
query_placed text (Err s) told = tt

pub query_memory : (x : Result Accepted Status) → IfErr x EndsQuery → IfErr x HasNoMemory
query_memory (Ok y) ends = tt
query_memory (Err s) ends = ends_memory s ends

pub query_never : (x : Result Accepted Status) → IfErr x EndsQuery → x ≡ Err status.ReadFault → ⊥
query_never (Ok y) ends e = cc
query_never (Err s) ends e = (let same : s ≡ status.ReadFault = cc in no_read_fault s ends same)
