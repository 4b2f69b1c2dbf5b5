-- The state of the devices for tests.
-- Of a count of calls the greatest number, 2 ^ 64 - 1, means that all will succeed.
use Rattle.std.specs.Prelude.{ℕ, ◌-◌, ◌^◌, ◌==◌, Bool, List, ◌++◌, Option, None, Some, drop, if◌then◌else◌, length, take}
use Rattle.std.specs.List.{repeat}
use Rattle.dir_ldif.specs.declared.device.script.Script.{Script}
use Rattle.dir_ldif.specs.declared.device.tape.Tape.{Tape}

-- ---- `Script`

-- the bytes that it has left, unless it gives them without end
abbrev pub left_of : Script → Option (List ℕ)
left_of s = if s.endless then None else Some (drop s.at s.bytes.now)

-- it gives its text over and over
abbrev pub is_endless : Script → Bool
is_endless s = s.endless

-- the rest of its text, and then the whole text so many times
abbrev pub rest_and_turns : ℕ → Script → List ℕ
rest_and_turns n s = drop s.at s.bytes.now ++ repeat n s.bytes.now

-- how often it has failed, and how many calls will succeed before it fails
abbrev pub failures_of : Script → ℕ
failures_of s = s.calls.failures

abbrev pub good_calls : Script → ℕ
good_calls s = s.calls.good

-- how many calls will succeed after one call: one fewer; none if there was none; all if all would
abbrev pub calls_after : ℕ → ℕ
calls_after good = if good == 2 ^ 64 - 1 then good else good - 1

-- the greatest number of bytes that the next call gives, and each call after it
abbrev pub first_size : Script → ℕ
first_size s = s.first

abbrev pub piece_size : Script → ℕ
piece_size s = s.piece

-- ---- `Tape`

-- the bytes that were taken
abbrev pub taken_by : Tape → List ℕ
taken_by t = take t.at t.bytes.now

-- the bytes that had been taken at the last flush that did not fail
abbrev pub flushed_by : Tape → List ℕ
flushed_by t = take t.flushed t.bytes.now

-- for how many bytes more there is room
abbrev pub room_of : Tape → ℕ
room_of t = length t.bytes.now - t.at

-- how often it has failed, and how many calls will succeed before it fails
abbrev pub tape_failures : Tape → ℕ
tape_failures t = t.calls.failures

abbrev pub tape_good_calls : Tape → ℕ
tape_good_calls t = t.calls.good

-- the greatest number of bytes that a call takes
abbrev pub tape_piece : Tape → ℕ
tape_piece t = t.piece
