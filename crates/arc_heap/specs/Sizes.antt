-- The sizes of blocks. They are this project's own choice, its profile of a heap: a block has 4, 8,
-- 16, 32, 64 or 128 words, and its class is the place of its size in this row, from 1 to 6.
use Rattle.std.specs.Prelude.{ℕ, ◌==◌, nat_le, if◌then◌else◌}

-- the class of the smallest blocks that hold so many words, of which there are at most 128
abbrev pub class_of : ℕ → ℕ
class_of words = if nat_le words 4 then 1 else (if nat_le words 8 then 2 else (if nat_le words 16 then 3 else (if nat_le words 32 then 4 else (if nat_le words 64 then 5 else 6))))

-- the words of each block of a class
unfoldable pub size_of : ℕ → ℕ
size_of class = if class == 1 then 4 else (if class == 2 then 8 else (if class == 3 then 16 else (if class == 4 then 32 else (if class == 5 then 64 else 128))))
