-- The reply to a request, as a web server wants it (RFC 3875, section 6): a status, headers and a page.
use Rattle.std.specs.Prelude.{ℕ, List, [], ◌++◌, length, codes}
use Rattle.std.specs.Fmt.{decimal}
use Rattle.ill_report.specs.Link.{PlaceShown, place_text}
use Rattle.ill_page.specs.declared.headers.TheConstants.{HEADERS}
use Rattle.ill_page.specs.declared.reply.Status.{Status}
use Rattle.ill_page.specs.declared.reply.TheConstants.{LINE_END, SEEN}
use Rattle.ill_page.specs.declared.reply.Status.TheVariants as statuses

-- Returns the header lines of a status.
abbrev pub status_line : Status → List ℕ
status_line statuses.Good = codes "Status: 200 OK\r\n"
status_line statuses.Bad = codes "Status: 400 Bad Request\r\n"
status_line statuses.Foreign = codes "Status: 403 Forbidden\r\n"
status_line statuses.NoPage = codes "Status: 404 Not Found\r\n"
status_line statuses.Method = codes "Status: 405 Method Not Allowed\r\nAllow: GET, POST\r\n"
status_line statuses.Conflict = codes "Status: 409 Conflict\r\n"
status_line statuses.NoLength = codes "Status: 411 Length Required\r\n"
status_line statuses.TooLong = codes "Status: 413 Content Too Large\r\n"
status_line statuses.NoForm = codes "Status: 415 Unsupported Media Type\r\n"
status_line statuses.Failed = codes "Status: 500 Internal Server Error\r\n"
status_line statuses.Busy = codes "Status: 503 Service Unavailable\r\nRetry-After: 10\r\n"

-- Returns the header with the size of a page, and the line that ends the headers.
unfoldable pub size_line : ℕ → List ℕ
size_line size = codes "Content-Length: " ++ (decimal size ++ codes "\r\n\r\n")

-- Returns the reply with this status and this page.
unfoldable pub page_reply : Status → (page : List ℕ) → List ℕ
page_reply status page = status_line status ++ (HEADERS.now ++ (size_line (length page) ++ page))

-- Returns the status that sends a browser elsewhere, and the header with the URL of a loan. The URL has letters, digits
-- and `?&=*-._+%` alone, so it ends no header.
unfoldable pub location_lines : PlaceShown → List ℕ
location_lines place = SEEN.now ++ (place_text place ++ LINE_END.now)

-- Returns the reply that sends a browser to the page of a loan.
unfoldable pub seen_reply : PlaceShown → List ℕ
seen_reply place = location_lines place ++ (HEADERS.now ++ size_line 0)
