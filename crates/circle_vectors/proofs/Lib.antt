mod PowerAt
