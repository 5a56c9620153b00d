-- Two runs side by side: their calls are the same but for those of one kind, which each may have at any place.
use Rattle.std.specs.Prelude.{◌≡◌, List, [], ◌∷◌}
use Rattle.runs.specs.World.{World}
use Rattle.runs.specs.Call.{Call}
use Rattle.runs.specs.Run.{Made}

pub data Beside (Theirs : Call → Type 0) : List Made → List Made → Type 0 where
  ended : Beside Theirs [] []
  first : {e : Made} {es fs : List Made} → Theirs e.asks → Beside Theirs es fs → Beside Theirs (e ∷ es) fs
  second : {f : Made} {es fs : List Made} → Theirs f.asks → Beside Theirs es fs → Beside Theirs es (f ∷ fs)
  both : {e f : Made} {es fs : List Made} → e.asks ≡ f.asks → Beside Theirs es fs → Beside Theirs (e ∷ es) (f ∷ fs)

-- the calls that both make get the same replies, where they are ours
abbrev pub SameReplies : {Theirs : Call → Type 0} {es fs : List Made} → (Call → Type 0) → Beside Theirs es fs → Type 0
SameReplies Ours ended = Unit {0}
SameReplies Ours (first t rest) = SameReplies Ours rest
SameReplies Ours (second t rest) = SameReplies Ours rest
SameReplies Ours (both {e} {f} p rest) = (Ours e.asks → e.reply ≡ f.reply) × SameReplies Ours rest

-- two worlds have this in common before the first call and after every one: w and v are the worlds before
abbrev pub Throughout : {Theirs : Call → Type 0} {es fs : List Made} → (World → World → Type 0) → World → World → Beside Theirs es fs → Type 0
Throughout Common w v ended = Common w v
Throughout Common w v (first {e} t rest) = Common w v × Throughout Common e.after v rest
Throughout Common w v (second {f} t rest) = Common w v × Throughout Common w f.after rest
Throughout Common w v (both {e} {f} p rest) = Common w v × Throughout Common e.after f.after rest
