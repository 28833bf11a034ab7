-- Ranges that follow each other.
use Rattle.std.proofs.Common.{◌≡◌, ℕ, zero, suc, ◌<◌, ◌≤◌, List, [], ◌∷◌, ◌++◌, length, map, take, refl, sym, ◌∙◌, ap, subst, arith, Some}
use Rattle.std.specs.Prelude.{slice_get}
use Rattle.std.proofs.lemmas.List.{length-take-le}
use Rattle.matcher.specs.Stacks.{AreStacked, FollowOn, IsNoted, contexts_in, firsts_in}
use Rattle.matcher.specs.declared.frames.Context.{Context}
use Rattle.matcher.specs.declared.frames.Found.{Found}
use Rattle.matcher.specs.declared.frames.Frame.{Frame}
use Rattle.matcher.specs.declared.frames.Range.{Range}
use Rattle.matcher.proofs.Places.{at_map, map_push}

follow_place : (place : ℕ) (ps : List Range) (n : ℕ) → FollowOn place ps n → place ≤ n
follow_place place [] n f = let e : place ≡ n = f in omega arith
follow_place place (p ∷ ps) n f = let a = f.1 in let b = follow_place p.to ps n f.2 in omega arith

-- where the one of a place lies
follow_at : (place : ℕ) (ps : List Range) (n : ℕ) → FollowOn place ps n → (i : ℕ) (p : Range) → slice_get ps i ≡ Some p → (place ≤ p.from) × (p.from ≤ p.to) × (p.to ≤ n)
follow_at place [] n f i p e = absurd (cc)
follow_at place (q ∷ ps) n f zero p e =
    let same : q ≡ p = cc in
    let a = f.0 in
    let b = f.1 in
    let c = follow_place q.to ps n f.2 in
    subst (λ (z : Range). (place ≤ z.from) × (z.from ≤ z.to) × (z.to ≤ n)) same (omega arith, omega arith, c)
follow_at place (q ∷ ps) n f (suc i) p e = let r = follow_at q.to ps n f.2 i p e in let a = r.0 in let b = f.1 in (omega arith, r.1, r.2)

-- the one ends where the other begins, or before
follow_apart : (place : ℕ) (ps : List Range) (n : ℕ) → FollowOn place ps n → (i j : ℕ) (p q : Range) → i < j → slice_get ps i ≡ Some p → slice_get ps j ≡ Some q → p.to ≤ q.from
follow_apart place [] n f i j p q l a b = absurd (cc)
follow_apart place (x ∷ ps) n f i zero p q l a b = absurd (omega arith)
follow_apart place (x ∷ ps) n f zero (suc j) p q l a b = let same : x ≡ p = cc in subst (λ (z : Range). z.to ≤ q.from) same (follow_at x.to ps n f.2 j q b).0
follow_apart place (x ∷ ps) n f (suc i) (suc j) p q l a b = let m : i < j = omega arith in follow_apart x.to ps n f.2 i j p q m a b

-- one more, and one less

follow_more : (place : ℕ) (ps : List Range) (n : ℕ) (q : Range) → FollowOn place ps n → q.from ≡ n → n ≤ q.to → FollowOn place (ps ++ q ∷ []) q.to
follow_more place [] n q f e l = let g : place ≡ n = f in (omega arith, omega arith, refl)
follow_more place (p ∷ ps) n q f e l = (f.0, f.1, follow_more p.to ps n q f.2 e l)

follow_less : (place : ℕ) (ps : List Range) (n : ℕ) (q : Range) → FollowOn place (ps ++ q ∷ []) n → FollowOn place ps q.from
follow_less place [] n q f = sym f.0
follow_less place (p ∷ ps) n q f = (f.0, f.1, follow_less p.to ps n q f.2)

follow_end : (place : ℕ) (ps : List Range) (n : ℕ) (q : Range) → FollowOn place (ps ++ q ∷ []) n → (q.from ≤ q.to) × (q.to ≡ n)
follow_end place [] n q f = let a = f.0 in let b = f.1 in (omega arith, f.2)
follow_end place (p ∷ ps) n q f = follow_end p.to ps n q f.2

module _ {X : Type 0} (part : Frame → Range) where
  pub more_on : (xs ys : List X) (frames : List Frame) (frame : Frame) → (part frame).from ≡ length xs → (part frame).to ≡ length ys → length xs ≤ length ys → FollowOn 0 (map part frames) (length xs) → FollowOn 0 (map part (frames ++ frame ∷ [])) (length ys)
  more_on xs ys frames frame from to l f =
      let m : length xs ≤ (part frame).to = omega arith in
      subst (λ (n : ℕ). FollowOn 0 (map part (frames ++ frame ∷ [])) n) to
      (subst (λ (z : List Range). FollowOn 0 z (part frame).to) (sym (map_push part frames frame)) (follow_more 0 (map part frames) (length xs) (part frame) f from m))

  -- the stack is cut to where the last one begins
  pub less_on : (xs : List X) (frames : List Frame) (frame : Frame) → FollowOn 0 (map part (frames ++ frame ∷ [])) (length xs) → FollowOn 0 (map part frames) (length (take (part frame).from xs))
  less_on xs frames frame f =
      let g = subst (λ (z : List Range). FollowOn 0 z (length xs)) (map_push part frames frame) f in
      let e = follow_end 0 (map part frames) (length xs) (part frame) g in
      let a = e.0 in
      let b = e.1 in
      let l : (part frame).from ≤ length xs = omega arith in
      subst (λ (n : ℕ). FollowOn 0 (map part frames) n) (sym (length-take-le (part frame).from xs l)) (follow_less 0 (map part frames) (length xs) (part frame) g)

module _ (part : Frame → Range) where
  pub ends_in : (n : ℕ) (frames : List Frame) → FollowOn 0 (map part frames) n → (i : ℕ) (one : Frame) → slice_get frames i ≡ Some one → (part one).to ≤ n
  ends_in n frames f i one at = (follow_at 0 (map part frames) n f i (part one) (at_map part frames i one at)).2

  -- as far as the last one's begins
  pub ends_before : (n : ℕ) (frames : List Frame) (frame : Frame) → FollowOn 0 (map part (frames ++ frame ∷ [])) n → (i : ℕ) (one : Frame) → slice_get frames i ≡ Some one → (part one).to ≤ (part frame).from
  ends_before n frames frame f =
      ends_in (part frame).from frames (follow_less 0 (map part frames) n (part frame) (subst (λ (z : List Range). FollowOn 0 z n) (map_push part frames frame) f))

  pub apart_on : (n : ℕ) (frames : List Frame) → FollowOn 0 (map part frames) n → (i j : ℕ) (one other : Frame) → i < j → slice_get frames i ≡ Some one → slice_get frames j ≡ Some other → (part one).to ≤ (part other).from
  apart_on n frames f i j one other l a b = follow_apart 0 (map part frames) n f i j (part one) (part other) l (at_map part frames i one a) (at_map part frames j other b)

-- the ranges are the same where a statement is noted

ranges_same : (part : Frame → Range) (before now : List Frame) → length now ≡ length before → ((i : ℕ) (one : Frame) → slice_get now i ≡ Some one → (other : Frame) × (slice_get before i ≡ Some other) × (part one ≡ part other))
    → map part now ≡ map part before
ranges_same part [] [] e h = refl
ranges_same part (x ∷ xs) [] e h = absurd (omega arith)
ranges_same part [] (y ∷ ys) e h = absurd (omega arith)
ranges_same part (x ∷ xs) (y ∷ ys) e h =
    let r = h 0 y refl in
    let at = r.1 in
    let same : x ≡ r.0 = cc in
    let many : length ys ≡ length xs = omega arith in
    ap (λ (z : Range). z ∷ map part ys) (r.2 ∙ ap part (sym same)) ∙ ap (λ (z : List Range). part x ∷ z) (ranges_same part xs ys many (λ i one a. h (suc i) one a))

pub stacked_noted : (cs : List Context) (fs : List Found) (before now : List Frame) (level : ℕ) → IsNoted before now level → AreStacked cs fs before → AreStacked cs fs now
stacked_noted cs fs before now level noted s = record {
  contexts = subst (λ (z : List Range). FollowOn 0 z (length cs)) (sym (ranges_same contexts_in before now noted.count (λ i one at. let p = noted.frame i one at in (p.0, p.1, ap contexts_in p.2)))) s.contexts;
  found = subst (λ (z : List Range). FollowOn 0 z (length fs)) (sym (ranges_same firsts_in before now noted.count (λ i one at. let p = noted.frame i one at in (p.0, p.1, ap firsts_in p.2)))) s.found;
}
