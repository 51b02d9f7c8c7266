-- The texts of replies. Each line of a head ends in CR LF.
use Rattle.std.specs.Prelude.{ℕ, List, ◌++◌, length, codes, decimal}
use Rattle.http_wire.specs.declared.reply.Code.{Code}
use Rattle.http_wire.specs.declared.reply.Code.TheVariants.{Ok, BadRequest, NotFound, TooLarge}

abbrev pub first_line_of : Code → List ℕ
first_line_of Ok = codes "HTTP/1.1 200 OK\r\n"
first_line_of BadRequest = codes "HTTP/1.1 400 Bad Request\r\n"
first_line_of NotFound = codes "HTTP/1.1 404 Not Found\r\n"
first_line_of TooLarge = codes "HTTP/1.1 431 Request Header Fields Too Large\r\n"

-- a head, with the body's length in decimal, then the body
abbrev pub reply_of : Code → List ℕ → List ℕ
reply_of code body =
    first_line_of code
    ++ (codes "Content-Type: text/plain\r\nContent-Length: " ++ (decimal (length body)
    ++ (codes "\r\nConnection: close\r\n\r\n" ++ body)))

-- the head of a reply that ends with the connection
abbrev pub long_head : List ℕ
long_head = codes "HTTP/1.1 200 OK\r\nContent-Type: text/plain\r\nConnection: close\r\n\r\n"
