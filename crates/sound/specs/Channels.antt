-- 01, "Sound", and 02, L13: what one line does to one channel. It depends on that channel and on RAM alone.
use Rattle.std.specs.Prelude.{Bool, true, false, List, ℕ, ◌+◌, ◌-◌, ◌*◌, ◌%◌, eqb, ltb, get_or}
use Rattle.common.specs.Choice.{if, both}
use Rattle.words.specs.Words.{kind_of, low12, loop_bit, int_bit, stop_bit}
use Rattle.words.specs.declared.WordKind.{WordKind}
use Rattle.words.specs.declared.WordKind.TheVariants.{Load, Pause, Repeat, Control, Nothing}
use Rattle.sound.specs.declared.Channel.{Channel}
use Rattle.sound.specs.declared.Did.TheVariants.{SatOut, Executed}
use Rattle.sound.specs.declared.Turn.{Turn}

-- the word at an address, low byte first; the byte after FFFFh is the one at 0000h
unfoldable pub word_at : List ℕ → ℕ → ℕ
word_at ram a = get_or ram ((a + 1) % 65536) 0 * 256 + get_or ram a 0

-- a channel with another pause and line count
abbrev pub with_pause : Channel → ℕ → ℕ → Channel
with_pause c pause count =
    record {
      enabled = c.enabled;
      interrupt = c.interrupt;
      address = c.address;
      prescale = c.prescale;
      pause = pause;
      count = count;
      counter = c.counter;
      mark = c.mark;
      muted = c.muted;
    }

-- a channel with another address
abbrev pub with_address : Channel → ℕ → Channel
with_address c address =
    record {
      enabled = c.enabled;
      interrupt = c.interrupt;
      address = address;
      prescale = c.prescale;
      pause = c.pause;
      count = c.count;
      counter = c.counter;
      mark = c.mark;
      muted = c.muted;
    }

-- a channel with another loop counter and mark
abbrev pub with_loop : Channel → ℕ → ℕ → Channel
with_loop c counter mark =
    record {
      enabled = c.enabled;
      interrupt = c.interrupt;
      address = c.address;
      prescale = c.prescale;
      pause = c.pause;
      count = c.count;
      counter = counter;
      mark = mark;
      muted = c.muted;
    }

-- a channel with another enable and interrupt
abbrev pub with_flags : Channel → Bool → Bool → Channel
with_flags c enabled interrupt =
    record {
      enabled = enabled;
      interrupt = interrupt;
      address = c.address;
      prescale = c.prescale;
      pause = c.pause;
      count = c.count;
      counter = c.counter;
      mark = c.mark;
      muted = c.muted;
    }

-- 02, L13: a channel with another mute mark
abbrev pub with_mute : Channel → Bool → Channel
with_mute c muted =
    record {
      enabled = c.enabled;
      interrupt = c.interrupt;
      address = c.address;
      prescale = c.prescale;
      pause = c.pause;
      count = c.count;
      counter = c.counter;
      mark = c.mark;
      muted = muted;
    }

-- a pause that is running, while the channel is enabled, counts a line; a count past the prescale starts again at 0 and takes 1 off
-- the pause
unfoldable pub pause_counted : Channel → Channel
pause_counted c =
    if (both c.enabled (ltb 0 c.pause))
    (if (ltb c.prescale (c.count + 1)) (with_pause c (c.pause - 1) 0) (with_pause c c.pause (c.count + 1)))
    c

-- enabled, and its pause is now 0
unfoldable pub active : Channel → Bool
active c = both c.enabled (eqb c.pause 0)

-- the address grows by 2
unfoldable pub fetched : Channel → Channel
fetched c = with_address c ((c.address + 2) % 65536)

-- 1NNN, PAUSE: pause N and line count 0; with N 0 nothing happens
abbrev pub paused : ℕ → Channel → Channel
paused n c = if (eqb n 0) c (with_pause c n 0)

-- 2NNN, REPEAT: loop counter N, and the mark is the next word, where the address stands after the fetch
abbrev pub repeated : ℕ → Channel → Channel
repeated n c = with_loop c n c.address

-- LOOP with a counter above 0 takes 1 off it and goes back to the mark
abbrev pub looped : Bool → Channel → Channel
looped b c =
    if (both b (ltb 0 c.counter)) (with_address (with_loop c (c.counter - 1) c.mark) c.mark) c

-- INT: the channel's interrupt waits
abbrev pub interrupted : Bool → Channel → Channel
interrupted b c = if b (with_flags c c.enabled true) c

-- STOP: the enable is cleared
abbrev pub stopped : Bool → Channel → Channel
stopped b c = if b (with_flags c false c.interrupt) c

-- 4xxx: LOOP, INT and STOP; all bits that are set take effect
unfoldable pub controlled : ℕ → Channel → Channel
controlled n c = stopped (stop_bit n) (interrupted (int_bit n) (looped (loop_bit n) c))

-- what a word of a kind, with these low 12 bits, does to the channel that has fetched it
abbrev pub executed : WordKind → ℕ → Channel → Channel
executed Load n c = c
executed Pause n c = paused n c
executed Repeat n c = repeated n c
executed Control n c = controlled n c
executed Nothing n c = c

-- what an active channel does with a word
abbrev pub word_played : Channel → ℕ → Turn
word_played c w = record { channel = executed (kind_of w) (low12 w) (fetched c); did = Executed (kind_of w) (low12 w) }

-- one channel's line: counting first, then, if active, one word
unfoldable pub turn_of : List ℕ → Channel → Turn
turn_of ram c =
    if (active (pause_counted c)) (word_played (pause_counted c) (word_at ram (pause_counted c).address))
    (record { channel = pause_counted c; did = SatOut })
