-- Frames of states and marks.
use Rattle.std.proofs.Common.{◌≡◌, ℕ, zero, suc, ◌-◌, ◌<◌, ◌≤◌, Bool, true, List, [], ◌∷◌, ◌++◌, length, max, take, refl, sym, ◌∙◌, ap, subst, arith, Some}
use Rattle.std.specs.Prelude.{slice_get}
use Rattle.tree_laws.proofs.Lists.{In}
use Rattle.path_states.specs.State.{StateView}
use Rattle.path_states.specs.States.{StatesView, last_state, outer_states}
use Rattle.path_states.proofs.Looking.{some_at}
use Rattle.matcher.specs.Parts.{IsUnmatched, NodeMarks, at_level}
use Rattle.matcher.specs.Stacks.{AreMatched, IsSigned, last_marks, outer_marks}
use Rattle.matcher.specs.View.{FrameView, GoTogether, frame_of, frames_of, frames_with, innermost_frame}
use Rattle.matcher.specs.declared.frames.Found.{Found}

-- each frame is that of a state and of marks
pub frame_at : (ss : List StateView) (ms : List NodeMarks) (i : ℕ) (f : FrameView) → slice_get (frames_with ss ms) i ≡ Some f → (s : StateView) × (slice_get ss i ≡ Some s) × ((m : NodeMarks) × (slice_get ms i ≡ Some m) × (f ≡ frame_of s m))
frame_at [] ms i f e = absurd (cc)
frame_at (s ∷ ss) [] i f e = absurd (cc)
frame_at (s ∷ ss) (m ∷ ms) zero f e = let g : f ≡ frame_of s m = cc in (s, refl, (m, refl, g))
frame_at (s ∷ ss) (m ∷ ms) (suc i) f e = frame_at ss ms i f e

pub at_frame : (ss : List StateView) (ms : List NodeMarks) (i : ℕ) (s : StateView) (m : NodeMarks) → slice_get ss i ≡ Some s → slice_get ms i ≡ Some m → slice_get (frames_with ss ms) i ≡ Some (frame_of s m)
at_frame [] ms i s m e f = absurd (cc)
at_frame (x ∷ ss) [] i s m e f = absurd (cc)
at_frame (x ∷ ss) (y ∷ ms) zero s m e f = let g : x ≡ s = cc in let h : y ≡ m = cc in ap (λ (z : StateView). Some (frame_of z y)) g ∙ ap (λ (z : NodeMarks). Some (frame_of s z)) h
at_frame (x ∷ ss) (y ∷ ms) (suc i) s m e f = at_frame ss ms i s m e f

-- there are as many as marks, where there are states for them
pub frames_length : (ss : List StateView) (ms : List NodeMarks) → length ms ≤ length ss → length (frames_with ss ms) ≡ length ms
frames_length [] [] l = refl
frames_length [] (m ∷ ms) l = absurd (omega arith)
frames_length (s ∷ ss) [] l = refl
frames_length (s ∷ ss) (m ∷ ms) l = let k : length ms ≤ length ss = omega arith in ap suc (frames_length ss ms k)

pub frames_few : (ss : List StateView) (ms : List NodeMarks) → length (frames_with ss ms) ≤ length ms
frames_few [] ms = omega arith
frames_few (s ∷ ss) [] = omega arith
frames_few (s ∷ ss) (m ∷ ms) = let k = frames_few ss ms in omega arith

-- one more of both
pub frames_push : (ss : List StateView) (ms : List NodeMarks) (s : StateView) (m : NodeMarks) → length ss ≡ length ms → frames_with (ss ++ s ∷ []) (ms ++ m ∷ []) ≡ frames_with ss ms ++ frame_of s m ∷ []
frames_push [] [] s m l = refl
frames_push [] (y ∷ ms) s m l = absurd (omega arith)
frames_push (x ∷ ss) [] s m l = absurd (omega arith)
frames_push (x ∷ ss) (y ∷ ms) s m l = let k : length ss ≡ length ms = omega arith in ap (λ (z : List FrameView). frame_of x y ∷ z) (frames_push ss ms s m k)

-- one more state alone
pub frames_ahead : (ss : List StateView) (ms : List NodeMarks) (s : StateView) → length ss ≡ length ms → frames_with (ss ++ s ∷ []) ms ≡ frames_with ss ms
frames_ahead [] [] s l = refl
frames_ahead [] (y ∷ ms) s l = absurd (omega arith)
frames_ahead (x ∷ ss) [] s l = absurd (omega arith)
frames_ahead (x ∷ ss) (y ∷ ms) s l = let k : length ss ≡ length ms = omega arith in ap (λ (z : List FrameView). frame_of x y ∷ z) (frames_ahead ss ms s k)

-- the first ones
pub frames_take : (n : ℕ) (ss : List StateView) (ms : List NodeMarks) → frames_with (take n ss) (take n ms) ≡ take n (frames_with ss ms)
frames_take zero ss ms = refl
frames_take (suc n) [] ms = refl
frames_take (suc n) (s ∷ ss) [] = refl
frames_take (suc n) (s ∷ ss) (m ∷ ms) = ap (λ (z : List FrameView). frame_of s m ∷ z) (frames_take n ss ms)

-- all but the last; the first one stays
pub frames_outer : (v : StatesView) (ms : List NodeMarks) → GoTogether v ms → frames_with (outer_states v.states) (outer_marks ms) ≡ take (max 1 (length (frames_of v ms) - 1)) (frames_of v ms)
frames_outer v ms go =
    let l = go.0 in
    ap (λ (z : ℕ). frames_with (take (max 1 (z - 1)) v.states) (outer_marks ms)) go.0
    ∙ (frames_take (max 1 (length ms - 1)) v.states ms
    ∙ ap (λ (z : ℕ). take (max 1 (z - 1)) (frames_of v ms)) (sym (frames_length v.states ms (omega arith))))

-- the innermost frame is that of the innermost state and of the last marks
pub last_frame : (v : StatesView) (ms : List NodeMarks) → GoTogether v ms → (f : FrameView) → innermost_frame (frames_of v ms) ≡ Some f → (s : StateView) × (last_state v.states ≡ Some s) × ((m : NodeMarks) × (last_marks ms ≡ Some m) × (f ≡ frame_of s m))
last_frame v ms g f e =
    let l = g.0 in
    let n : length (frames_with v.states ms) ≡ length ms = frames_length v.states ms (omega arith) in
    let q = frame_at v.states ms (length ms - 1) f (subst (λ (z : ℕ). slice_get (frames_with v.states ms) (z - 1) ≡ Some f) n e) in
    (q.0, subst (λ (z : ℕ). slice_get v.states (z - 1) ≡ Some q.0) (sym l) q.1, q.2)

pub frame_last : (v : StatesView) (ms : List NodeMarks) → GoTogether v ms → (s : StateView) → last_state v.states ≡ Some s → (m : NodeMarks) × (last_marks ms ≡ Some m) × (innermost_frame (frames_of v ms) ≡ Some (frame_of s m))
frame_last v ms g s e =
    let l = g.0 in
    let k = g.1 in
    let n : length (frames_with v.states ms) ≡ length ms = frames_length v.states ms (omega arith) in
    let j : length ms - 1 < length ms = omega arith in
    let m = some_at ms (length ms - 1) j in
    let at = at_frame v.states ms (length ms - 1) s m.0 (subst (λ (z : ℕ). slice_get v.states (z - 1) ≡ Some s) l e) m.1 in
    (m.0, m.1, subst (λ (z : ℕ). slice_get (frames_with v.states ms) (z - 1) ≡ Some (frame_of s m.0)) (sym n) at)

-- what became of the frame of the level, where first matches were found
pub record FrameMatched (found : List Found) (level : ℕ) (before now : FrameView) : Type 0 where
  pub active : now.active ≡ before.active
  pub pending : now.pending ≡ before.pending
  pub whole : now.whole ≡ before.whole
  pub found_same : now.found ≡ before.found
  pub signed : now.signed ≡ before.signed
  pub open_to : (r : ℕ) → IsUnmatched now.contexts r → IsUnmatched before.contexts r × (In (at_level r level) found → ⊥)
  pub open_from : (r : ℕ) → IsUnmatched before.contexts r × (In (at_level r level) found → ⊥) → IsUnmatched now.contexts r

pub frames_matched : (ss : List StateView) (found : List Found) (before now : List NodeMarks) → AreMatched found before now → (l : ℕ) (f : FrameView) → slice_get (frames_with ss now) l ≡ Some f
    → (g : FrameView) × (slice_get (frames_with ss before) l ≡ Some g) × FrameMatched found l g f
frames_matched ss found before now m l f e =
    let q = frame_at ss now l f e in
    let p = m.each l q.2.0 q.2.1 in
    let is = p.2 in (
      frame_of q.0 p.0,
      at_frame ss before l q.0 p.0 q.1 p.1,
      subst (λ (z : FrameView). FrameMatched found l (frame_of q.0 p.0) z) (sym q.2.2)
          (record { active = refl; pending = refl; whole = refl; found_same = is.same_found; signed = is.same_signed; open_to = is.open_to; open_from = is.open_from }),
    )

-- what became of a frame, where a statement was signed
pub frames_signed : (ss : List StateView) (before now : List NodeMarks) (level : ℕ) → IsSigned before now level → (i : ℕ) (f : FrameView) → slice_get (frames_with ss now) i ≡ Some f
    → (g : FrameView) × (slice_get (frames_with ss before) i ≡ Some g) × ((f ≡ record g { signed = f.signed }) × ((g.signed ≡ true → f.signed ≡ true) × (i ≡ level → f.signed ≡ true)))
frames_signed ss before now level m i f e =
    let q = frame_at ss now i f e in
    let p = m.each i q.2.0 q.2.1 in
    let b : f.signed ≡ q.2.0.signed = ap (λ (z : FrameView). z.signed) q.2.2 in
    let c : frame_of q.0 q.2.0 ≡ record (frame_of q.0 p.0) { signed = q.2.0.signed } = ap (frame_of q.0) p.2 in (
      frame_of q.0 p.0,
      at_frame ss before i q.0 p.0 q.1 p.1,
      (
        q.2.2 ∙ (c ∙ ap (λ (z : Bool). record (frame_of q.0 p.0) { signed = z }) (sym b)),
        ((λ h. b ∙ p.3 h), (λ d. b ∙ m.is q.2.0 (subst (λ (z : ℕ). slice_get now z ≡ Some q.2.0) d q.2.1))),
      ),
    )

pub signed_length : (ss : List StateView) (before now : List NodeMarks) (level : ℕ) → IsSigned before now level → length ss ≡ length before → length (frames_with ss now) ≡ length (frames_with ss before)
signed_length ss before now level m l =
    let c = m.count in
    frames_length ss now (omega arith) ∙ (c ∙ sym (frames_length ss before (omega arith)))
