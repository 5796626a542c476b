-- The ranges and sizes of document 01 that several crates need. Each stands here once.
use Rattle.std.specs.Prelude.{Bool, ◌&&◌, ℕ, leb}

-- lo to hi
abbrev pub within : ℕ → ℕ → ℕ → Bool
within lo hi x = leb lo x && leb x hi

-- the largest t
abbrev pub top_faults : ℕ
top_faults = 4

-- the most servers that a shelf can have
abbrev pub most_servers : ℕ
most_servers = 13

-- clients 1 to 8 may write, 1 to 16 may read
abbrev pub top_writer : ℕ
top_writer = 8

abbrev pub top_client : ℕ
top_client = 16

-- the largest call number and the largest stamp number
abbrev pub top_number : ℕ
top_number = 99999999

-- the most bytes of a content (document 01: record). Amended (W-202): it may have none, and 6 means more than these
abbrev pub top_length : ℕ
top_length = 1024

-- bytes of a key, a nonce and a digest
abbrev pub key_size : ℕ
key_size = 32

-- least output buffers: for a packet, for a content
abbrev pub packet_room : ℕ
packet_room = 6400

abbrev pub content_room : ℕ
content_room = 1024

-- bytes of a server's memory, and the stored writes that it can hold
abbrev pub memory_size : ℕ
memory_size = 40960

abbrev pub capacity : ℕ
capacity = 32
