-- What becomes of the marks of frames where first matches are found, and where a statement is signed.
use Rattle.std.proofs.Common.{◌≡◌, ℕ, zero, suc, ◌<◌, ◌≤◌, List, length, take, refl, sym, ◌∙◌, ap, subst, inl, inr, ◌⊎◌, arith, Some}
use Rattle.std.specs.Prelude.{slice_get}
use Rattle.tree_laws.proofs.Lists.{In}
use Rattle.path_states.specs.Lists.{From}
use Rattle.path_states.proofs.Looking.{in_at}
use Rattle.matcher.specs.Parts.{IsUnmatched, NodeMarks, at_level, marks_at, marks_of, slice_of}
use Rattle.matcher.specs.Stacks.{AreMatched, AreStacked, Finds, FoundNoted, IsIn, IsMatched, IsNoted, IsSigned, OpenAt, contexts_in}
use Rattle.matcher.specs.declared.frames.Context.{Context}
use Rattle.matcher.specs.declared.frames.Found.{Found}
use Rattle.matcher.specs.declared.frames.Frame.{Frame}
use Rattle.matcher.specs.declared.frames.Range.{Range}
use Rattle.matcher.proofs.Ranges.{apart_on}
use Rattle.matcher.proofs.Places.{at_drop, at_map, at_take, drop_at, map_at, map_length, take_at}

-- ---- members of a part, by their places

module _ {X : Type 0} where
  part_from : (p : Range) (xs : List X) (x : X) → In x (slice_of p xs) → (i : ℕ) × IsIn p i × (slice_get xs i ≡ Some x)
  part_from p xs x j = let r = drop_at (take p.to xs) p.from x j in let q = take_at xs p.to r.0 x r.2 in (r.0, (r.1, q.0), q.1)

  part_to : (p : Range) (xs : List X) (i : ℕ) (x : X) → IsIn p i → slice_get xs i ≡ Some x → In x (slice_of p xs)
  part_to p xs i x l e = at_drop (take p.to xs) p.from i x l.0 (at_take xs p.to i x l.1 e)

unmatched_at : (p : Range) (xs : List Context) (r : ℕ) → IsUnmatched (slice_of p xs) r → (i : ℕ) × IsIn p i × OpenAt xs i r
unmatched_at p xs r u = let q = part_from p xs u.context u.member in (q.0, q.1, record { context = u.context; at = q.2; is = (u.of, u.is) })

at_unmatched : (p : Range) (xs : List Context) (r i : ℕ) → IsIn p i → OpenAt xs i r → IsUnmatched (slice_of p xs) r
at_unmatched p xs r i l o = let s = o.is in record { context = o.context; member = part_to p xs i o.context l o.at; of = s.0; is = s.1 }

-- a context of a frame stands on the stack
pub unmatched_there : (p : Range) (xs : List Context) (r : ℕ) → IsUnmatched (slice_of p xs) r → IsUnmatched xs r
unmatched_there p xs r u = let q = part_from p xs u.context u.member in record { context = u.context; member = in_at xs q.0 u.context q.2; of = u.of; is = u.is }

apart_cases : (x y : ℕ) → (x ≡ y) ⊎ ((x < y) ⊎ (y < x))
apart_cases zero zero = inl refl
apart_cases zero (suc y) = inr (inl (omega arith))
apart_cases (suc x) zero = inr (inr (omega arith))
apart_cases (suc x) (suc y) = elim (apart_cases x y) [ inl e ↦ inl (ap suc e) | inr s ↦ inr (elim s [ inl l ↦ inl (omega arith) | inr l ↦ inr (omega arith) ]) ]

module _ (cs cs2 : List Context) (fs found : List Found) (frames : List Frame) (stacked : AreStacked cs fs frames) (noted : FoundNoted frames found cs cs2) where
  -- what is noted of one frame
  module _ (l : ℕ) (frame : Frame) (at : slice_get frames l ≡ Some frame) where
    one_part : (f : Found) (other : Frame) (i : ℕ) → slice_get frames f.level ≡ Some other → IsIn other.contexts i → IsIn frame.contexts i → f.level ≡ l
    one_part f other i e p q = elim (apart_cases f.level l) [
      | inl same ↦ same
      | inr s ↦ elim s [
        | inl lt ↦ (let a : other.contexts.to ≤ frame.contexts.from = apart_on contexts_in (length cs) frames stacked.contexts f.level l other frame lt e at in let b = p.1 in let d = q.0 in absurd (omega arith))
        | inr lt ↦ (let a : frame.contexts.to ≤ other.contexts.from = apart_on contexts_in (length cs) frames stacked.contexts l f.level frame other lt at e in let b = q.1 in let d = p.0 in absurd (omega arith))
      ]
    ]

    there : (i r : ℕ) → IsIn frame.contexts i → From found (λ (f : Found) (q : ℕ). Finds frames f i q) r → In (at_level r l) found
    there i r q s =
        let x = s.is in
        let e = one_part s.of x.frame i x.at x.within q in
        subst (λ (z : Found). In z found) (ap (λ (z : ℕ). at_level z s.of.level) x.same ∙ ap (λ (z : ℕ). at_level r z) e) s.member

    one_matched : IsMatched found l (marks_at cs fs frame) (marks_at cs2 fs frame)
    one_matched = record {
      same_found = refl;
      same_signed = refl;
      open_to = λ r u. (
          let q = unmatched_at frame.contexts cs2 r u in
          let o = (noted.has q.0 r).0 q.2 in
          (at_unmatched frame.contexts cs r q.0 q.1 o.0, λ j. o.1 (record { of = at_level r l; member = j; is = record { frame = frame; at = at; within = q.1; same = refl } })));
      open_from = λ r s. (
          let q = unmatched_at frame.contexts cs r s.0 in
          at_unmatched frame.contexts cs2 r q.0 q.1 ((noted.has q.0 r).1 (q.2, λ f. s.1 (there q.0 r q.1 f))));
    }

  -- what is noted of all
  pub marks_matched : AreMatched found (marks_of cs fs frames) (marks_of cs2 fs frames)
  marks_matched = record {
    count = map_length (marks_at cs2 fs) frames ∙ sym (map_length (marks_at cs fs) frames);
    each = λ l one at. (
        let q = map_at (marks_at cs2 fs) frames l one at in
        (marks_at cs fs q.0, at_map (marks_at cs fs) frames l q.0 q.1, subst (λ (z : NodeMarks). IsMatched found l (marks_at cs fs q.0) z) q.2 (one_matched l q.0 q.1)));
  }

-- ---- a statement is signed

module _ (cs : List Context) (fs : List Found) (frames now : List Frame) (level : ℕ) (noted : IsNoted frames now level) where
  pub noted_marks : IsSigned (marks_of cs fs frames) (marks_of cs fs now) level
  noted_marks = record {
    count = map_length (marks_at cs fs) now ∙ (noted.count ∙ sym (map_length (marks_at cs fs) frames));
    each = λ i one at. (
        let q = map_at (marks_at cs fs) now i one at in
        let p = noted.frame i q.0 q.1 in
        let same : marks_at cs fs q.0 ≡ record (marks_at cs fs p.0) { signed = q.0.signed } = ap (marks_at cs fs) p.2 in (
          marks_at cs fs p.0,
          at_map (marks_at cs fs) frames i p.0 p.1,
          sym q.2 ∙ (same ∙ ap (λ (z : NodeMarks). record (marks_at cs fs p.0) { signed = z.signed }) q.2),
          (λ h. ap (λ (z : NodeMarks). z.signed) (sym q.2) ∙ p.3 h),
        ));
    is = λ one at. (
        let q = map_at (marks_at cs fs) now level one at in
        ap (λ (z : NodeMarks). z.signed) (sym q.2) ∙ noted.is q.0 q.1);
  }
