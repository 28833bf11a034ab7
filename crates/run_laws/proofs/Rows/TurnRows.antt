-- What turns reach over the tokens of a document, computed.
use Rattle.std.specs.Prelude.{◌≡◌, List, [], ◌∷◌, ◌++◌, refl, replicate}
use Rattle.gcx_model.specs.Turning.{Turn, Feed, Act, Turned, turned}
use Rattle.placed_laws.proofs.Rows.Words.{tokens_children}
use Rattle.run_laws.proofs.Rows.HeldRows.{plan_children}

abbrev reached : List Turn → Turned
reached turns = turned plan_children tokens_children turns

-- all tokens and no action
all_feeds : reached (replicate 11 Feed) ≡ record { fed = 11; acted = 0 }
all_feeds = refl

-- then all actions, and a turn of each kind that does nothing
all_acts : reached (replicate 11 Feed ++ (replicate 14 Act ++ (Feed ∷ Act ∷ []))) ≡ record { fed = 11; acted = 14 }
all_acts = refl

-- five of each, one behind the other
in_turn : reached (Feed ∷ Act ∷ Feed ∷ Act ∷ Feed ∷ Act ∷ Feed ∷ Act ∷ Feed ∷ Act ∷ []) ≡ record { fed = 5; acted = 5 }
in_turn = refl

-- an action that isn't possible yet isn't made up for
too_early : reached (Act ∷ Act ∷ Act ∷ Feed ∷ []) ≡ record { fed = 1; acted = 1 }
too_early = refl
