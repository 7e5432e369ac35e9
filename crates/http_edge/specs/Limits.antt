-- How much of a message is taken. This project's own rule.
use Rattle.std.specs.Prelude.{ℕ}

-- so many fields of a head, and of a trailer
abbrev pub max_fields : ℕ
max_fields = 64

-- so many bytes of a head
abbrev pub max_head : ℕ
max_head = 65536

-- so many bytes of a chunk's line, and of a trailer
abbrev pub max_part : ℕ
max_part = 65536

-- room for so many bytes of a body is made before they come
abbrev pub first_room : ℕ
first_room = 1048576

-- so many bytes of one read of a head, of a chunk or of an answer at most
abbrev pub part_room : ℕ
part_room = 4096

-- so many bytes of one read at most
abbrev pub max_read : ℕ
max_read = 65536

-- so many bytes of a body
abbrev pub max_body : ℕ
max_body = 20971520
