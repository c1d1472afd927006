-- A word behind a program's name: its bytes.
-- Assumes nothing.
use Rattle.std.specs.Prelude.{◌≡◌, List, ℕ, ◌≤◌, length, take}
use Rattle.desk.specs.declared.Word.{Word}

-- So many bytes stand at the front of these, and that part has as many.
abbrev pub IsPrefixLen : ℕ → List ℕ → Type 0
IsPrefixLen n xs = (n ≤ length xs) × (n ≡ length (take n xs))

abbrev pub bytes_in : Word → List ℕ
bytes_in word = take word.len word.bytes
