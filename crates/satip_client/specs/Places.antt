-- The places of the parts of a head in a text.
use Rattle.std.specs.Prelude.{◌≡◌, ℕ, ◌≤◌, List, ◌++◌, length, take, drop, map, All, codes}
use Rattle.std.specs.Char.{is_ascii_digit}
use Rattle.std.specs.Str.Parse.{digits_value}
use Rattle.httparse.specs.Grammar.{AllPass, LineEnd, print_end}
use Rattle.httparse.specs.Spans.{header_bytes, IsHeaderWithin}
use Rattle.httparse.specs.declared.spans.HeaderSpan.{HeaderSpan}
use Rattle.satip_client.specs.Heads.{Head, print_head, headers_of, status_of, IsReason, HasHead}
use Rattle.satip_client.specs.declared.heads.HeadRead.{HeadRead}
use Rattle.satip_client.specs.declared.heads.StatusLine.{StatusLine}

-- the text begins with the version and three digits
pub record HasStatus (text digits rest : List ℕ) : Type 0 where
  pub three : length digits ≡ 3
  pub all : AllPass is_ascii_digit digits
  pub text_is : text ≡ codes "RTSP/1.0 " ++ (digits ++ rest)

-- the text begins with this status line
pub record HasLine (text digits reason : List ℕ) (end : LineEnd) (rest : List ℕ) : Type 0 where
  pub three : length digits ≡ 3
  pub all : AllPass is_ascii_digit digits
  pub is_reason : IsReason reason
  pub text_is : text ≡ codes "RTSP/1.0 " ++ (digits ++ (reason ++ (print_end end ++ rest)))

-- the status line that was read
pub record IsLineAt (text : List ℕ) (line : StatusLine) : Type 0 where
  pub within : line.end ≤ length text
  pub digits : List ℕ
  pub reason : List ℕ
  pub end : LineEnd
  pub has : HasLine text digits reason end (drop line.end text)
  pub status : line.status ≡ digits_value 10 digits

-- the places of the head that was read are within the text and the limits
pub record IsHeadWithin (text : List ℕ) (headers : List HeaderSpan) (read : HeadRead) : Type 0 where
  pub end : read.end ≤ length text
  pub count : read.headers ≤ 64
  pub spans : All (IsHeaderWithin (length text)) (take read.headers headers)
  pub body : read.body ≤ 4096

-- the head that was read is this one
pub record IsHeadAt (text : List ℕ) (headers : List HeaderSpan) (read : HeadRead) (h : Head) (size : ℕ) : Type 0 where
  pub has : HasHead text h size
  pub end : read.end ≡ length (print_head h)
  pub status : read.status ≡ status_of h
  pub body : read.body ≡ size
  pub headers_are : map (header_bytes text) (take read.headers headers) ≡ headers_of h

-- the text begins with some head
abbrev pub HasSomeHead : List ℕ → Type 0
HasSomeHead text = (h : Head) × (size : ℕ) × HasHead text h size
