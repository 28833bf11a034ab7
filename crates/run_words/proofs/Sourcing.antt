-- What a source gave, over several reads.
use Rattle.std.proofs.Common.{◌≡◌, ℕ, ◌+◌, ◌≤◌, Bool, false, List, [], ◌∷◌, ◌++◌, length, map, take, All, Option, Some, None, Ok, Err, refl, sym, ap, subst, ◌∙◌, arith, append-nil, length-append}
use Rattle.std.proofs.KnownBytes.{Consumes-nil, Consumes-trans, Consumes-kept}
use Rattle.std.proofs.lemmas.List.{map_push, length-take-le, same_from_push, length_push}
use Rattle.std.proofs.lemmas.List.Elements.{All-push}
use Rattle.std.specs.Io.KnownBytes.{Consumes}
use Rattle.gcx_base.specs.declared.limits.Limits.{Limits}
use Rattle.gcx_io.proofs.Written.{joined_push, is_some}
use Rattle.gcx_io.specs.Calls.{ReadsSource}
use Rattle.gcx_io.specs.Causes.{Rose}
use Rattle.gcx_io.specs.Views.{Call, Gave, Failed, SourceView}
use Rattle.gcx_io.specs.Writing.{IsSomeBytes, joined}
use Rattle.gcx_model.specs.Faults.{FaultIs, within_limit, before_limit, past_limit}
use Rattle.gcx_model.specs.declared.fault.DocFault.{DocFault}
use Rattle.gcx_model.specs.declared.fault.DocFault.TheVariants.{TooLong}
use Rattle.run_words.specs.Reading.{SourceGave, ReadsOn, IsShort, AreClean}
use Rattle.run_words.specs.Stops.{Stop, More, EndAnswered, FaultAnswered}

pub source_none : (a : SourceView) → SourceGave a a [] More
source_none a = record {
  some = λ k d within. absurd (omega (arith, within));
  calls = sym (append-nil (a.calls ++ []) ∙ append-nil a.calls);
  told = Consumes-nil a.left;
  at_end = λ e. cc;
  faults = refl;
}

calls_on : (a b c : List Call) (ps : List (List ℕ)) (d : Call) → b ≡ a ++ map (Gave 65536) ps ++ [] → c ≡ b ++ d ∷ [] → c ≡ a ++ map (Gave 65536) ps ++ d ∷ []
calls_on a b c ps d first second = second ∙ ap (λ (l : List Call). l ++ d ∷ []) (first ∙ append-nil (a ++ map (Gave 65536) ps))

pub source_more : {E : Type 0} (a b c : SourceView) (ps : List (List ℕ)) (n : ℕ) (buf : List ℕ) → SourceGave a b ps More
    → ReadsSource {E = E} b c (Ok n) buf → 1 ≤ n → n ≤ length buf → length buf ≡ 65536 → SourceGave a c (ps ++ take n buf ∷ []) More
source_more a b c ps n buf g once some within size = record {
  some = All-push IsSomeBytes ps (take n buf) g.some (is_some (take n buf) (omega (arith, length-take-le n buf within)));
  calls = calls_on a.calls b.calls c.calls ps (Gave 65536 (take n buf)) g.calls (once.calls ∙ ap (λ (k : ℕ). b.calls ++ Gave k (take n buf) ∷ []) size) ∙ pushed a.calls ps (take n buf);
  told = subst (Consumes a.left c.left) (sym (joined_push ps (take n buf)))
      (Consumes-trans a.left b.left c.left (joined ps) (take n buf) g.told once.left.0);
  at_end = λ e. cc;
  faults = once.calm ∙ g.faults;
}
  where
    pushed : (xs : List Call) (ps : List (List ℕ)) (p : List ℕ) → xs ++ map (Gave 65536) ps ++ Gave 65536 p ∷ [] ≡ xs ++ map (Gave 65536) (ps ++ p ∷ []) ++ []
    pushed [] ps p = sym (map_push (Gave 65536) ps p) ∙ sym (append-nil (map (Gave 65536) (ps ++ p ∷ [])))
    pushed (x ∷ xs) ps p = ap (λ (l : List Call). x ∷ l) (pushed xs ps p)

pub source_end : {E : Type 0} (a b c : SourceView) (ps : List (List ℕ)) (n : ℕ) (buf : List ℕ) → SourceGave a b ps More
    → ReadsSource {E = E} b c (Ok n) buf → n ≡ 0 → length buf ≡ 65536 → SourceGave a c ps EndAnswered
source_end {E = E} a b c ps n buf g more none size =
    let once : ReadsSource {E = E} b c (Ok 0) buf = subst (λ (k : ℕ). ReadsSource {E = E} b c (Ok k) buf) none more in
    record {
      some = g.some;
      calls = calls_on a.calls b.calls c.calls ps (Gave 65536 []) g.calls (once.calls ∙ ap (λ (k : ℕ). b.calls ++ Gave k [] ∷ []) size);
      told = subst (Consumes a.left c.left) (append-nil (joined ps)) (Consumes-trans a.left b.left c.left (joined ps) [] g.told once.left.0);
      at_end = λ e. once.left.1 refl (omega (arith, size));
      faults = once.calm ∙ g.faults;
    }

pub source_fault : {E : Type 0} (a b c : SourceView) (ps : List (List ℕ)) (e : E) (buf : List ℕ) → SourceGave a b ps More
    → ReadsSource {E = E} b c (Err e) buf → SourceGave a c ps FaultAnswered
source_fault a b c ps e buf g once = record {
  some = g.some;
  calls = calls_on a.calls b.calls c.calls ps Failed g.calls once.calls;
  told = Consumes-kept a.left b.left c.left (joined ps) g.told once.left;
  at_end = λ f. cc;
  faults = subst (λ (k : ℕ). Rose k c.faults) g.faults once.faults.failed;
}

-- ---- no read comes behind a fault

-- bytes without a fault are no more than may be
pub clean_within : (lim : Limits) (b : List ℕ) (ended : Bool) → FaultIs lim b ended None → length b ≤ lim.bytes
clean_within lim b ended (within_limit h w) = h
clean_within lim b ended (before_limit f h w e) = absurd (no_some f e)
  where
    no_some : (f : DocFault) → None ≡ Some f → ⊥
    no_some f e = cc
clean_within lim b ended (past_limit h w e) = absurd (no_some (TooLong lim.bytes) e)
  where
    no_some : (f : DocFault) → None ≡ Some f → ⊥
    no_some f e = cc

pub clean_none : (lim : Limits) → FaultIs lim [] false None → AreClean lim []
clean_none lim clean = record {
  short = λ k d within. absurd (omega (arith, within));
  earlier = λ before last split. absurd (omega (arith, ap length split, length_push before last));
  clean = clean;
}

before_is_clean : (lim : Limits) (ps : List (List ℕ)) (p : List ℕ) → FaultIs lim (joined ps) false None
    → (before : List (List ℕ)) (last : List ℕ) → ps ++ p ∷ [] ≡ before ++ last ∷ [] → FaultIs lim (joined before) false None
before_is_clean lim ps p clean before last split =
    subst (λ (l : List (List ℕ)). FaultIs lim (joined l) false None) (same_from_push ps before p last split).0 clean

pub clean_more : (lim : Limits) (ps : List (List ℕ)) (p : List ℕ) → AreClean lim ps → length p ≤ 65536 → FaultIs lim (joined ps ++ p) false None
    → AreClean lim (ps ++ p ∷ [])
clean_more lim ps p c short clean = record {
  short = All-push IsShort ps p c.short short;
  earlier = before_is_clean lim ps p c.clean;
  clean = subst (λ (l : List ℕ). FaultIs lim l false None) (sym (joined_push ps p)) clean;
}

-- nothing is wrong so far
pub on_clean : (lim : Limits) (ps : List (List ℕ)) (stop : Stop) → AreClean lim ps → ReadsOn lim ps stop
on_clean lim ps stop c = record {
  short = c.short;
  earlier = c.earlier;
  unfaulted = λ e. c.clean;
  bound = omega (arith, clean_within lim (joined ps) false c.clean);
}

-- one piece more, whatever it is
pub on_piece : (lim : Limits) (ps : List (List ℕ)) (p : List ℕ) → AreClean lim ps → length p ≤ 65536 → ReadsOn lim (ps ++ p ∷ []) More
on_piece lim ps p c short = record {
  short = All-push IsShort ps p c.short short;
  earlier = before_is_clean lim ps p c.clean;
  unfaulted = λ e. absurd (e refl);
  bound = omega (arith, clean_within lim (joined ps) false c.clean, ap length (joined_push ps p), length-append (joined ps) p, short);
}
