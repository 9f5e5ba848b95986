-- What following writes and says, and whether anything failed.
use Rattle.std.specs.{
  Prelude.{is_none, is_some, ℕ, Bool, true, false, not, ◌&&◌, ◌||◌, List, [], ◌∷◌, ◌++◌, Option, Some, None},
  Prelude.{bytes_eq, if◌then◌else◌},
}
use Rattle.ports_core.specs.Text.{header_of}
use Rattle.follow_core.specs.{Look.{Ways, Look}, Share.{Share, bytes_of, remarks_of, shares_at_look, shares_of}, Telling.Remark, Title.title}

abbrev pub is_empty : List ℕ → Bool
is_empty [] = true
is_empty (byte ∷ bytes) = false

-- the last header was of this name
abbrev pub is_last : List ℕ → Option (List ℕ) → Bool
is_last name None = false
is_last name (Some last) = bytes_eq name last

-- Where headers are written, before these bytes of a name: at the first look each file that was opened has one; later
-- one stands before text that isn't empty, unless the last header was of that name.
abbrev pub has_header : Bool → Option (List ℕ) → (is_opened : Bool) → (name bytes : List ℕ) → Bool
has_header headers last is_opened name bytes = headers
    && (is_opened || (not (is_empty bytes) && not (is_last name last)))

abbrev pub text_with : Bool → Option (List ℕ) → (is_opened : Bool) → (name bytes : List ℕ) → List ℕ
text_with headers last is_opened name bytes =
    (if has_header headers last is_opened name bytes then header_of (title name) (is_none last) else []) ++ bytes

-- whose the last header is after that
abbrev pub last_with : Bool → Option (List ℕ) → (is_opened : Bool) → (name bytes : List ℕ) → Option (List ℕ)
last_with headers last is_opened name bytes =
    if has_header headers last is_opened name bytes then Some name else last

abbrev pub share_text : Bool → Option (List ℕ) → Share → List ℕ
share_text headers last share = text_with headers last share.is_opened share.name (bytes_of share)

abbrev pub header_after : Bool → Option (List ℕ) → Share → Option (List ℕ)
header_after headers last share = last_with headers last share.is_opened share.name (bytes_of share)

-- the text of shares, where the last header before them was of this name
abbrev pub text_from : Bool → Option (List ℕ) → List Share → List ℕ
text_from headers last [] = []
text_from headers last (share ∷ shares) =
    share_text headers last share ++ text_from headers (header_after headers last share) shares

abbrev pub last_header_from : Bool → Option (List ℕ) → List Share → Option (List ℕ)
last_header_from headers last [] = last
last_header_from headers last (share ∷ shares) = last_header_from headers (header_after headers last share) shares

abbrev pub messages_of : List Share → List Remark
messages_of [] = []
messages_of (share ∷ shares) = remarks_of share ++ messages_of shares

-- some name could not be opened or read, or was missing at the first look
abbrev pub any_failed : List Share → Bool
any_failed [] = false
any_failed (share ∷ shares) = is_some share.failure || any_failed shares

pub record Followed : Type 0 where
  -- the text on standard output
  pub out : List ℕ
  -- what is said on standard error
  pub messages : List Remark
  -- the status is 1 in place of 0
  pub has_failed : Bool

abbrev pub made_from : Bool → Option (List ℕ) → List Share → Followed
made_from headers last shares = record {
  out = text_from headers last shares;
  messages = messages_of shares;
  has_failed = any_failed shares;
}

-- what following these names through these looks writes and says
abbrev pub followed : Ways → Bool → List (List ℕ) → List Look → Followed
followed ways headers names looks = made_from headers None (shares_of ways names looks)

-- the name that the last header of these looks is of
abbrev pub last_header : Ways → Bool → List (List ℕ) → List Look → Option (List ℕ)
last_header ways headers names looks = last_header_from headers None (shares_of ways names looks)

-- what one look after these writes and says
abbrev pub followed_at : Ways → Bool → List (List ℕ) → List Look → Look → Followed
followed_at ways headers names looks look =
    made_from headers (last_header ways headers names looks) (shares_at_look ways names looks look)

-- both, one after the other
abbrev pub followed_both : Followed → Followed → Followed
followed_both one next = record {
  out = one.out ++ next.out;
  messages = one.messages ++ next.messages;
  has_failed = one.has_failed || next.has_failed;
}
