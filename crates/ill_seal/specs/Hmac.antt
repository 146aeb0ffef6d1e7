-- HMAC-SHA256: the keyed digest of RFC 2104, over the SHA-256 of FIPS 180-4.
-- A key, a text and a digest are lists of bytes.
use Rattle.std.specs.Prelude.{ℕ, ◌-◌, nat_lt, if◌then◌else◌, List, ◌++◌, length, map, replicate, bit_xor}
use Rattle.sha2.specs.Sha256.{sha256}

-- Returns the bytes with zeros after them, up to a block of 64 bytes.
abbrev pub filled : List ℕ → List ℕ
filled bytes = bytes ++ replicate (64 - length bytes) 0

-- Returns the bytes, each combined with `mask` by exclusive or.
abbrev pub masked : ℕ → List ℕ → List ℕ
masked mask bytes = map (λ byte. bit_xor byte mask) bytes

-- Returns the masked block of `key` that stands before the text.
abbrev pub inner : List ℕ → List ℕ
inner key = masked 0x36 (filled key)

-- Returns the masked block of `key` that stands before the inner digest.
abbrev pub outer : List ℕ → List ℕ
outer key = masked 0x5C (filled key)

-- Returns the HMAC-SHA256 of a text under a key of at most 64 bytes.
abbrev pub short_hmac : List ℕ → List ℕ → List ℕ
short_hmac key text = sha256 (outer key ++ sha256 (inner key ++ text))

-- Returns the HMAC-SHA256 of a text under a key. A key of more than 64 bytes counts by its digest.
unfoldable pub hmac : List ℕ → List ℕ → List ℕ
hmac key text = short_hmac (if nat_lt 64 (length key) then sha256 key else key) text
