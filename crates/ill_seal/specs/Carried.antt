-- The bytes that come to a library, and the letters that two libraries with one key have sealed.
use Rattle.std.specs.Prelude.{◌≡◌, ℕ, List, ◌++◌, Contains}
use Rattle.ill_seal.specs.declared.sender.Sender.{Sender}
use Rattle.ill_seal.specs.Hmac.{hmac}
use Rattle.ill_seal.specs.Letter.{sealed}

-- The bytes end with a seal under `key` that fits all bytes before the seal.
abbrev pub HasSeal : List ℕ → List ℕ → Type 0
HasSeal key bytes = (body : List ℕ) × (bytes ≡ body ++ hmac key body)

-- The bytes are a letter with a text that its sender has sealed. `texts` has the texts that each sender has sealed.
abbrev pub IsTheirs : List ℕ → (Sender → List (List ℕ)) → List ℕ → Type 0
IsTheirs key texts bytes =
    (sender : Sender) × (text : List ℕ) × Contains (texts sender) text × (bytes ≡ sealed key sender text)

-- Of the bytes that came (`came`), only letters of the two libraries have a seal under `key` that fits.
-- Of all bytes this is false, since each text has a seal that fits. Who has no key does not find this seal.
abbrev pub NobodyElseSeals : List ℕ → (Sender → List (List ℕ)) → List (List ℕ) → Type 0
NobodyElseSeals key texts came =
    (bytes : List ℕ) → Contains came bytes → HasSeal key bytes → IsTheirs key texts bytes
