-- What a sink gains, and how much of a piece it takes.
use Rattle.std.specs.Prelude.{◌≡◌, ℕ, ◌-◌, ◌==◌, min, nat_lt, if◌then◌else◌, List, [], ◌++◌, length, take, find, reverse, Option, Some, None, option_map, Result, Ok, Err}
use Rattle.base_outside.specs.Causes.{raised}
use Rattle.base_outside.specs.declared.sink.PutFailed.{PutFailed}

-- a sink that tells its bytes has gained a piece
abbrev pub Gains : Option (List ℕ) → Option (List ℕ) → List ℕ → Type 0
Gains None now piece = Unit {0}
Gains (Some before) now piece = now ≡ Some (before ++ piece)

-- what a put takes of its piece: all, or so many bytes from the front
abbrev pub taken_of : Result Unit PutFailed → List ℕ → List ℕ
taken_of (Ok done) piece = piece
taken_of (Err error) piece = take error.taken piece

-- the bytes of a sink in memory, how many more it has room for, the calls that fail with the length taken there,
-- the number of the next call, and how many have failed
pub record SinkRecord : Type 0 where
  pub bytes : List ℕ
  pub room : ℕ
  pub fails : List (ℕ × ℕ)
  pub next : ℕ
  pub faults : ℕ

-- a sink before its first call
abbrev pub empty_sink : List (ℕ × ℕ) → SinkRecord
empty_sink fails = record { bytes = []; room = 0; fails = fails; next = 0; faults = 0 }

-- the length taken at a listed call; of two that name one call the last counts
abbrev pub listed : List (ℕ × ℕ) → ℕ → Option ℕ
listed fails number = option_map (λ fail. fail.1) (find (λ fail. fail.0 == number) (reverse fails))

-- how much of a piece of so many bytes a call may take: all, or at a listed call fewer
abbrev pub allowed : Option ℕ → ℕ → ℕ
allowed None len = len
allowed (Some most) len = min most (len - 1)

-- how much of a piece of so many bytes the next put takes: what is allowed, as far as there is room
abbrev pub taken_next : SinkRecord → ℕ → ℕ
taken_next sink len = min (allowed (listed sink.fails sink.next) len) sink.room

-- the sink after a put of a piece
abbrev pub after_put : SinkRecord → List ℕ → SinkRecord
after_put sink piece =
    let taken = taken_next sink (length piece) in
    record {
      bytes = sink.bytes ++ take taken piece;
      room = sink.room - taken;
      fails = sink.fails;
      next = raised sink.next;
      faults = if nat_lt taken (length piece) then raised sink.faults else sink.faults;
    }

-- what a put answers that takes so much of so many bytes
abbrev pub answer_of : ℕ → ℕ → Result Unit PutFailed
answer_of taken len = if nat_lt taken len then Err (record { taken = taken }) else Ok tt
