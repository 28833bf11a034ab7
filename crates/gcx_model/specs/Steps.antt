-- What a call does to a value that stands for a state.

-- From each state for which the value stood and in which the step may be taken, it stands for the next one.
abbrev pub Follows : {A S : Type 0} → (A → S → Type 0) → (S → Type 0) → (S → S) → (old new : A) → Type 0
Follows {S = S} Stands may next old new = (s : S) → Stands old s → may s → Stands new (next s)

-- It stands for the states for which it stood.
abbrev pub StandsAsBefore : {A S : Type 0} → (A → S → Type 0) → (old new : A) → Type 0
StandsAsBefore {S = S} Stands old new = (s : S) → Stands old s → Stands new s
