-- Frames on the stacks, with one more and one less.
use Rattle.std.proofs.Common.{◌≡◌, ℕ, ◌≤◌, Bool, false, List, [], ◌∷◌, ◌++◌, length, map, take, drop, ◌∙◌, ap}
use Rattle.matcher.specs.Parts.{NodeMarks, marks_at, marks_of, new_marks, open_context, slice_of}
use Rattle.matcher.specs.Stacks.{AreStacked, contexts_in, firsts_in}
use Rattle.matcher.specs.declared.frames.Context.{Context}
use Rattle.matcher.specs.declared.frames.Found.{Found}
use Rattle.matcher.specs.declared.frames.Frame.{Frame}
use Rattle.matcher.proofs.Extending.{extends_first, new_part}
use Rattle.matcher.proofs.Places.{map_push, map_same, place_of, take_less}
use Rattle.matcher.proofs.Ranges.{ends_before, ends_in, less_on, more_on}

-- one frame more, after the others
pub stacked_more : (cs cs2 : List Context) (fs fs2 : List Found) (frames : List Frame) (frame : Frame) → frame.contexts.from ≡ length cs → frame.contexts.to ≡ length cs2 → frame.found.from ≡ length fs → frame.found.to ≡ length fs2
    → length cs ≤ length cs2 → length fs ≤ length fs2 → AreStacked cs fs frames → AreStacked cs2 fs2 (frames ++ frame ∷ [])
stacked_more cs cs2 fs fs2 frames frame cfrom cto ffrom fto more_c more_f s = record {
  contexts = more_on contexts_in cs cs2 frames frame cfrom cto more_c s.contexts;
  found = more_on firsts_in fs fs2 frames frame ffrom fto more_f s.found;
}

abbrev made : List Context → List Found → Bool → NodeMarks
made c f b = record { contexts = c; found = f; signed = b }

-- the marks of a frame are the same where the stacks are so as far as its ranges go
marks_same : (one : Frame) (cs cs2 : List Context) (fs fs2 : List Found) → take one.contexts.to cs2 ≡ take one.contexts.to cs → take one.found.to fs2 ≡ take one.found.to fs → marks_at cs2 fs2 one ≡ marks_at cs fs one
marks_same one cs cs2 fs fs2 e f = ap (λ (z : List Context). made (drop one.contexts.from z) (slice_of one.found fs2) one.signed) e ∙ ap (λ (z : List Found). made (slice_of one.contexts cs) (drop one.found.from z) one.signed) f

-- the stacks are cut to where the last frame begins
module _ (cs : List Context) (fs : List Found) (frames : List Frame) (frame : Frame) (s : AreStacked cs fs (frames ++ frame ∷ [])) where
  pub stacked_less : AreStacked (take frame.contexts.from cs) (take frame.found.from fs) frames
  stacked_less = record { contexts = less_on contexts_in cs frames frame s.contexts; found = less_on firsts_in fs frames frame s.found }

  pub marks_less : marks_of (take frame.contexts.from cs) (take frame.found.from fs) frames ≡ marks_of cs fs frames
  marks_less = map_same (marks_at (take frame.contexts.from cs) (take frame.found.from fs)) (marks_at cs fs) frames (λ one j. (
      let i = place_of frames one j in
      let c = ends_before contexts_in (length cs) frames frame s.contexts i.0 one i.1 in
      let f = ends_before firsts_in (length fs) frames frame s.found i.0 one i.1 in
      marks_same one cs (take frame.contexts.from cs) fs (take frame.found.from fs) (take_less one.contexts.to frame.contexts.from cs c) (take_less one.found.to frame.found.from fs f)))

-- the marks stay where the stacks get longer
marks_longer : (cs cs2 more : List Context) (fs fs2 found : List Found) (frames : List Frame) → AreStacked cs fs frames → cs2 ≡ cs ++ more → fs2 ≡ fs ++ found → marks_of cs2 fs2 frames ≡ marks_of cs fs frames
marks_longer cs cs2 more fs fs2 found frames s e f = map_same (marks_at cs2 fs2) (marks_at cs fs) frames (λ one j. (
    let i = place_of frames one j in
    let c = ends_in contexts_in (length cs) frames s.contexts i.0 one i.1 in
    let d = ends_in firsts_in (length fs) frames s.found i.0 one i.1 in
    marks_same one cs cs2 fs fs2 (extends_first cs cs2 more one.contexts.to e c) (extends_first fs fs2 found one.found.to f d)))

-- and those of the new frame are put after them
pub marks_more : (cs cs2 : List Context) (fs fs2 : List Found) (frames : List Frame) (roles : List ℕ) (found : List Found) (frame : Frame) → AreStacked cs fs frames
    → cs2 ≡ cs ++ map open_context roles → fs2 ≡ fs ++ found → frame.contexts.from ≡ length cs → frame.contexts.to ≡ length cs2 → frame.found.from ≡ length fs → frame.found.to ≡ length fs2 → frame.signed ≡ false
    → marks_of cs2 fs2 (frames ++ frame ∷ []) ≡ marks_of cs fs frames ++ new_marks roles found ∷ []
marks_more cs cs2 fs fs2 frames roles found frame s e f cfrom cto ffrom fto signed =
    map_push (marks_at cs2 fs2) frames frame
    ∙ (ap (λ (z : List NodeMarks). z ++ marks_at cs2 fs2 frame ∷ []) (marks_longer cs cs2 (map open_context roles) fs fs2 found frames s e f)
    ∙ ap (λ (z : NodeMarks). marks_of cs fs frames ++ z ∷ []) new_one)
  where
    new_one : marks_at cs2 fs2 frame ≡ new_marks roles found
    new_one =
        ap (λ (z : List Context). made z (slice_of frame.found fs2) frame.signed) (new_part cs cs2 (map open_context roles) frame.contexts.from frame.contexts.to e cfrom cto)
        ∙ (ap (λ (z : List Found). made (map open_context roles) z frame.signed) (new_part fs fs2 found frame.found.from frame.found.to f ffrom fto)
        ∙ ap (λ (z : Bool). made (map open_context roles) found z) signed)
