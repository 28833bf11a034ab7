use Rattle.doc_parts.proofs.whole.read_next.Goals as goal

pub read_between-requires : goal.read_between-requires
read_between-requires c =
    let yes = c.if-is_between.true in
    record { chars = c.requires.chars; mode = c.is_between.ensures.mode yes; inside = c.is_between.ensures.inside yes; run = c.is_between.ensures.run yes; sound = c.requires.sound }
